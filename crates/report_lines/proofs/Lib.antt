pub mod LineForms
pub mod PieceForms
