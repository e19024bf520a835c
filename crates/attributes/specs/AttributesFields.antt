-- What the fields of attributes stand for, and what they keep to.
use Rattle.std.specs.Prelude.{◌≡◌, ◌≤◌, length}
use Rattle.attributes.specs.Attributes.{AttributeLists}
use Rattle.attributes.specs.declared.table.Attributes.TheInside.{Inside}

-- the three lists
abbrev pub lists_of_fields : Inside → AttributeLists
lists_of_fields a = record { areas = a.areas.items; volumes = a.volumes.items; dynamics = a.dynamics.items }

-- each node has one of each, and there are no more nodes than a tree may have
pub record AreOfNodes (l : AttributeLists) : Type 0 where
  pub few : length l.areas ≤ 2097151
  pub one_volume_each : length l.volumes ≡ length l.areas
  pub one_dynamics_each : length l.dynamics ≡ length l.areas
