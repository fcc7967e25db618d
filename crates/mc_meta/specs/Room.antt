-- Why six letters are enough for the flags of a line. No public clause cites this module.
use Rattle.std.specs.Prelude.{◌≡◌, ◌≤◌, ℕ, ◌+◌, List, length, filter}
use Rattle.mc_meta.specs.declared.flags.Flags.{Flags}
use Rattle.mc_meta.specs.Flags.{is_among}

-- the listed letters that were seen
abbrev pub used : List ℕ → List ℕ → List ℕ
used listed seen = filter (is_among seen) listed

-- at most six letters are listed; those seen are listed and differ, and the marks are among them
pub record HasRoom (listed : List ℕ) (said : Flags) : Type 0 where
  pub few : length listed ≤ 6
  pub seen : length said.seen ≤ length (used listed said.seen)
  pub marks : length said.marks ≤ length said.seen

-- the second flags have seen the same letters, and have at most one more mark
pub record Follows (said more : Flags) : Type 0 where
  pub seen : more.seen ≡ said.seen
  pub marks : length more.marks ≤ length said.marks + 1
