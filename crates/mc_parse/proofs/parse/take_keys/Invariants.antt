use Rattle.std.proofs.Common.{◌≡◌, ◌++◌, length}
use Rattle.std.specs.List.{list_all}
use Rattle.zy_base.specs.Rest.{IsRestOf}
use Rattle.mc_parse.specs.Words.{words}
use Rattle.mc_parse.specs.Form.{is_key}
use Rattle.mc_parse.proofs.parse.take_keys.Given as goal

-- the text that is left gets shorter
abbrev pub decreases-loop-split : goal.decreases-loop-split
decreases-loop-split l = length l.rest

-- the keys so far, and the words that are left, are all words; these are keys if and only if all are; and the line
-- ends with the text that is left
abbrev pub invariant-loop-split : goal.invariant-loop-split
invariant-loop-split l = (l.keys ++ words l.rest ≡ l.fn.keys ++ words l.text) × (list_all is_key (words l.rest) ≡ list_all is_key (words l.text))
    × IsRestOf l.rest l.line
