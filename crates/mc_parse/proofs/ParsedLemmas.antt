-- What was read of a line, by its need.
use Rattle.std.proofs.Common.{◌≡◌, ℕ, ◌+◌, ◌≤◌, List, ◌++◌, length, subst, arith, length-append}
use Rattle.zy_base.specs.Rest.{IsRestOf}
use Rattle.zy_base.proofs.RestLemmas.{rest_on, rest_length}
use Rattle.mc_parse.specs.Storing.{Parts}
use Rattle.std.specs.Prelude.{Option, None, Some, MatchOption}
use Rattle.mc_parse.specs.declared.error_line.ErrorLine.TheVariants.{Unknown}
use Rattle.mc_parse.specs.declared.name.Name.TheVariants as Names
use Rattle.mc_parse.specs.declared.need.Need.{Need}
use Rattle.mc_parse.specs.declared.need.Need.TheVariants.{Nothing, Block, Quit}
use Rattle.mc_parse.specs.declared.parsed.Parsed.{Parsed}
use Rattle.mc_parse.specs.Arity.{Following, following_of, no_more}
use Rattle.mc_parse.specs.Form.{find, form_with, form_after}
use Rattle.mc_parse.specs.Need.{need_for}
use Rattle.mc_parse.specs.Parsed.{IsParsedBy, IsUnnamed, IsNamed}

-- a line without a name was read, whatever it needs
pub unnamed_parsed : (what : Need) (line : List ℕ) (parsed : Parsed) → parsed.name ≡ None → IsUnnamed line → IsParsedBy what line parsed
unnamed_parsed Nothing line parsed none is = rw none is
unnamed_parsed (Block bytes) line parsed none is = rw none is
unnamed_parsed Quit line parsed none is = tt

-- so was one with the name quit, which needs no block
pub quit_parsed : (words : List (List ℕ)) (line : List ℕ) (parsed : Parsed) → MatchOption parsed.name (IsUnnamed line) (IsNamed line parsed)
    → IsParsedBy (need_for (form_after Names.Quit words)) line parsed
quit_parsed words line parsed is = go (following_of no_more words)
  where
    go : (following : Option Following) → IsParsedBy (need_for (find following Unknown (form_with Names.Quit))) line parsed
    go None = is
    go (Some following) = tt

-- a key comes right before the text after it, at the end of the line
pub parts_rest : (line text word rest : List ℕ) → IsRestOf text line → Parts text word rest → IsRestOf (word ++ rest) line
parts_rest line text word rest of parts = rest_on parts.front (word ++ rest) line (subst (λ (l : List ℕ). IsRestOf l line) parts.is of)

-- the line has room for both
pub word_within : (line word rest : List ℕ) → IsRestOf (word ++ rest) line → length word + length rest ≤ length line
word_within line word rest of = let within = rest_length (word ++ rest) line of in omega (arith, within, length-append word rest)
