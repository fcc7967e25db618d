-- The verdict on a whole text as an items file: what it says that a server has, or its first fault.
use Rattle.std.specs.Prelude.{ℕ, Bool, true, false, List, ⊤}
use Rattle.zy_base.specs.declared.file_fault.FileFault.{FileFault}
use Rattle.zy_read.specs.Fields.{format_of}
use Rattle.zy_read.specs.Format.{Format, verdict_on}
use Rattle.zy_items.specs.Standing.{Standing}
use Rattle.zy_items.specs.Steps.{ItemsRead, ItemsPlace, items_fields, standing_in}

-- what a whole text is: what a server has, or the text's first fault
pub data ItemsVerdict : Type 0 where
  Good : Standing → ItemsVerdict
  Bad : FileFault → ItemsVerdict

-- the verdict on a text that ends at its end
abbrev pub good_items : ItemsRead → List ⊤ → ItemsVerdict
good_items s given = Good (standing_in s)

-- the format of items files; what a text gives is that the file ended
abbrev pub items_files : Format ItemsPlace ⊤ FileFault ItemsVerdict
items_files = format_of items_fields good_items Bad

-- the verdict on a whole text
abbrev pub items_verdict : List ℕ → ItemsVerdict
items_verdict text = verdict_on items_files text

-- the text is an items file
abbrev pub is_good_items : ItemsVerdict → Bool
is_good_items (Good standing) = true
is_good_items (Bad fault) = false
