-- The checks of a line one after the other, and what a block is.
use Rattle.std.proofs.Common.{◌≡◌, ℕ, ◌-◌, Bool, true, false, not, ◌&&◌, if◌then◌else◌, List, ◌++◌, length, take, drop, refl, ap, ◌∙◌, arith, length-append}
use Rattle.std.specs.Prelude.{Option, None, Some}
use Rattle.std.proofs.Math.Seq.{drop-append_seam, take-append_seam}
use Rattle.mc_parse.specs.declared.name.Name.{Name}
use Rattle.mc_parse.specs.declared.command.Command.TheVariants.{Fault}
use Rattle.mc_parse.specs.declared.error_line.ErrorLine.TheVariants.{Unknown, BadLine, BadChunk, TooLarge}
use Rattle.mc_parse.specs.Name.{arity_of}
use Rattle.mc_parse.specs.Arity.{Following, has_count, lacks_noreply, following, following_of}
use Rattle.mc_parse.specs.Form.{Ask, Form, faulty, asks, number_fault, find, form_with, form_after}
use Rattle.mc_laws.specs.Checks.{HasBadCount, LacksNoreply, HasLongKey, HasBadNumber, Asks, AreCounted, is_silenced}
use Rattle.mc_parse.specs.Need.{need_for}
use Rattle.mc_parse.specs.Meaning.{line_end, value_of, is_ended, value_command, block_command_for, large_command_for, IsBlockFor, IsTooLarge}
use Rattle.mc_laws.specs.Noreply.{is_quiet}

-- ---- the words after a name

after_is : (name : Name) (words : List (List ℕ)) (found : Option Following) → following_of (arity_of name) words ≡ found
    → form_after name words ≡ find found Unknown (λ following. form_with name following)
after_is name words found is = ap (λ (f : Option Following). find f Unknown (λ following. form_with name following)) is

none_by : (has lacks : Bool) (words : List (List ℕ)) (silent : Bool) → has ≡ false → (if has && not lacks then Some (following words silent) else None) ≡ None
none_by has lacks words silent is = rw is refl

lacking : (has lacks : Bool) (words : List (List ℕ)) (silent : Bool) → lacks ≡ true → (if has && not lacks then Some (following words silent) else None) ≡ None
lacking true lacks words silent is = rw is refl
lacking false lacks words silent is = refl

counted : (name : Name) (words : List (List ℕ)) → AreCounted name words → following_of (arity_of name) words ≡ Some (following words (is_silenced name words))
counted name words is = rw (is.count, is.noreply) refl

-- a wrong count of words
pub form_after-count : (name : Name) (words : List (List ℕ)) → HasBadCount name words → form_after name words ≡ faulty Unknown
form_after-count name words bad =
    after_is name words None (none_by (has_count (arity_of name) (length words)) (lacks_noreply (arity_of name) words) words (is_silenced name words) bad)

-- noreply is missing where it is required
pub form_after-noreply : (name : Name) (words : List (List ℕ)) → LacksNoreply name words → form_after name words ≡ faulty Unknown
form_after-noreply name words lacks =
    after_is name words None (lacking (has_count (arity_of name) (length words)) (lacks_noreply (arity_of name) words) words (is_silenced name words) lacks)

quiet_as : (words : List (List ℕ)) (silent : Bool) → (following words silent).quiet ≡ silent
quiet_as words true = refl
quiet_as words false = refl

-- a key that is too long
pub form_after-keys : (name : Name) (words : List (List ℕ)) → HasLongKey name words → form_after name words ≡ faulty BadLine
form_after-keys name words is =
    after_is name words (Some (following words (is_silenced name words))) (counted name words is.counted) ∙ rw is.long refl

-- a bad number
pub form_after-numbers : (name : Name) (words : List (List ℕ)) → HasBadNumber name words → form_after name words ≡ faulty (number_fault name)
form_after-numbers name words is =
    after_is name words (Some (following words (is_silenced name words))) (counted name words is.keyed.counted) ∙ rw (is.keyed.short, is.bad) refl

-- no fault
pub form_after-asks : (name : Name) (words : List (List ℕ)) (ask : Ask) → Asks name words ask → form_after name words ≡ asks ask (is_silenced name words)
form_after-asks name words ask is =
    after_is name words (Some (following words (is_silenced name words))) (counted name words is.keyed.counted)
    ∙ rw (is.keyed.short, is.asks) (ap (asks ask) (quiet_as words (is_silenced name words)))

-- ---- blocks

-- a value that is too large
pub large-fault : (form : Form) → IsTooLarge (need_for form) → large_command_for form ≡ Fault TooLarge (is_quiet form)
large-fault (faulty line) large = absurd large
large-fault (asks ask quiet) large = refl

-- a block that is not ended
pub block-fault : (form : Form) (block : List ℕ) → IsBlockFor (need_for form) block → is_ended block ≡ false → block_command_for block form ≡ Fault BadChunk (is_quiet form)
block-fault (faulty line) block fits bad = absurd fits
block-fault (asks ask quiet) block fits bad = rw bad refl

-- a value and the two bytes after it
pub block-value : (ask : Ask) (quiet : Bool) (value : List ℕ) → block_command_for (value ++ line_end) (asks ask quiet) ≡ value_command ask quiet value
block-value ask quiet value =
    let size = length-append value line_end in
    let all : length (value ++ line_end) - 2 ≡ length value = omega (arith, size) in
    let last : drop (length (value ++ line_end) - 2) (value ++ line_end) ≡ line_end = ap (λ (n : ℕ). drop n (value ++ line_end)) all ∙ drop-append_seam value line_end in
    let front : value_of (value ++ line_end) ≡ value = ap (λ (n : ℕ). take n (value ++ line_end)) all ∙ take-append_seam value line_end in
    rw (last, front) refl
