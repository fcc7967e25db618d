-- How the caller calls up the cores that rest. No public clause cites this module.
use Rattle.std.specs.Prelude.{◌≡◌, ℕ, ◌==◌, if◌then◌else◌, Bool, true, false}
use Rattle.zy_control.specs.Pass.{Held, seeing_sleepers}
use Rattle.zy_park.specs.Pass.{Rooted, ringing_each_from}

-- what the pass has seen of sleepers
abbrev pub sleepers_of : Held → ℕ
sleepers_of pass = pass.trace.sleepers.value

-- the root after it rang each core whose bit in the word is 1: if the word is 0, it rang none
abbrev pub rung_from : ℕ → Rooted → Rooted
rung_from word root = if word == 0 then root else ringing_each_from word root

-- if it had to, the caller loaded sleepers and then rang each core whose bit was 1; otherwise it made no step
abbrev pub RingsIf : Bool → Held → Held → Rooted → Rooted → Type 0
RingsIf true watch watch' root root' =
    (watch' ≡ seeing_sleepers (sleepers_of watch') watch) × (root' ≡ rung_from (sleepers_of watch') root)
RingsIf false watch watch' root root' = (watch' ≡ watch) × (root' ≡ root)
