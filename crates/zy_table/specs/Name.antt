-- A table's identity as plain numbers, which a view can hold.
use Rattle.std.specs.Prelude.{[]}
use Rattle.atomic_table.specs.Seated.{TableId}
use Rattle.zy_table.specs.declared.name.Name.{Name}

-- the name of the table with this identity
abbrev pub name_of : TableId → Name
name_of z = record {
  words = z.words;
  slots = z.slots;
  views_name = z.views_name;
  atom = z.atom;
  block = z.block;
  offset = z.offset;
  slot_names = z.slot_names;
}

-- the identity of the table with this name
abbrev pub id_of : Name → TableId
id_of n = record {
  words = n.words;
  slots = n.slots;
  views_name = n.views_name;
  atom = n.atom;
  block = n.block;
  offset = n.offset;
  slot_names = n.slot_names;
}

-- the name for a view or label that has no table yet
abbrev pub no_name : Name
no_name = record { words = 0; slots = 0; views_name = 0; atom = 0; block = 0; offset = 0; slot_names = [] }
