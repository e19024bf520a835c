mod LeaflessForest
mod SmallForest
