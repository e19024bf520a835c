use Rattle.node_region.proofs.Appends.{both-can_link, appended-seen}
use Rattle.node_region.proofs.region.Region.append.Goals as goal

pub link-free-requires : goal.link-free-requires
link-free-requires c =
    let e = c.append-tables.ensures in
    both-can_link c.self.inside c.other.inside c.self.invariant c.other.invariant (rw (← c.self.view_is, ← c.other.view_is) at c.requires)
    c.append-tables.result (record { first = e.first; slots = e.slots; places = e.places; chunks = e.chunks; capacity = e.capacity })

pub invariant_of-result : goal.invariant_of-result
invariant_of-result c =
    let e = c.append-tables.ensures in
    (appended-seen c.self.inside c.other.inside c.self.invariant c.other.invariant (rw (← c.self.view_is, ← c.other.view_is) at c.requires)
    c.append-tables.result (record { first = e.first; slots = e.slots; places = e.places; chunks = e.chunks; capacity = e.capacity })
    c.link-free.new.self c.link-free.result c.link-free.ensures).1

pub returns : goal.returns
returns c =
    let e = c.append-tables.ensures in
    rw (← c.self.view_is, ← c.other.view_is)
    (appended-seen c.self.inside c.other.inside c.self.invariant c.other.invariant (rw (← c.self.view_is, ← c.other.view_is) at c.requires)
    c.append-tables.result (record { first = e.first; slots = e.slots; places = e.places; chunks = e.chunks; capacity = e.capacity })
    c.link-free.new.self c.link-free.result c.link-free.ensures).0
