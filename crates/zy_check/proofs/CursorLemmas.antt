-- What a cursor has given of a stream.
use Rattle.std.specs.Prelude.{map}
use Rattle.std.specs.List.{slice_range}
use Rattle.std.proofs.Common.{◌≡◌, ℕ, zero, suc, ◌+◌, ◌-◌, ◌≤◌, List, [], ◌∷◌, ◌++◌, length, take, drop, refl, sym, ap, ◌∙◌, subst, arith}
use Rattle.std.proofs.lemmas.List.{append_assoc, map-append, take-append-drop}
use Rattle.mc_parse.specs.declared.command.Command.{Command}
use Rattle.zy_frame.specs.declared.frame_kind.FrameKind.{FrameKind}
use Rattle.zy_frame.specs.Frame.{command_of}
use Rattle.zy_frame.specs.Cut.{frames_of, commands_of}
use Rattle.zy_frame.specs.Progress.{Progress, StandsFor}
use Rattle.zy_frame.specs.Feed.{Appends}
use Rattle.zy_frame.proofs.CutLaws.{frames_of_nil, commands_first}
use Rattle.zy_check.specs.Cursor.{Cursor, HasGivenCommands}

-- the first elements up to a place, and then those up to a later one
pub take_on : {A : Type 0} (start more : ℕ) (xs : List A) → take (start + more) xs ≡ take start xs ++ take more (drop start xs)
take_on {A} zero more xs = let none : 0 + more ≡ more = omega arith in ap (λ (n : ℕ). take n xs) none
take_on {A} (suc start) more [] = take_none (suc start + more) ∙ sym (take_none more)
  where
    take_none : (n : ℕ) → take {A = A} n [] ≡ []
    take_none zero = refl
    take_none (suc n) = refl
take_on {A} (suc start) more (x ∷ xs) =
    let on : suc start + more ≡ suc (start + more) = omega arith in
    ap (λ (n : ℕ). take n (x ∷ xs)) on ∙ ap (λ (l : List A). x ∷ l) (take_on start more xs)

-- the first bytes, and then a piece
take_piece : (at end : ℕ) (stream : List ℕ) → at ≤ end → take at stream ++ slice_range stream at end ≡ take end stream
take_piece at end stream rising =
    let whole : at + (end - at) ≡ end = omega arith in
    sym (take_on at (end - at) stream) ∙ ap (λ (n : ℕ). take n stream) whole

pub none_given : (p : Progress) (stream : List ℕ) → StandsFor p [] → HasGivenCommands (record { framer = p; frames = []; at = 0 }) stream []
none_given p stream stands = record { within = omega arith; stands = stands; all = ap (map command_of) frames_of_nil }

pub fed_on : (p q : Progress) (before after : List FrameKind) (at end : ℕ) (stream : List ℕ) → at ≤ end → end ≤ length stream
    → ((fed : List ℕ) → StandsFor p fed → StandsFor q (fed ++ slice_range stream at end))
    → ((fed : List ℕ) → StandsFor p fed → Appends fed (slice_range stream at end) before after)
    → (given : List Command) → HasGivenCommands (record { framer = p; frames = before; at = at }) stream given → HasGivenCommands (record { framer = q; frames = after; at = end }) stream given
fed_on p q before after at end stream rising within stands appends given has =
    let more = appends (take at stream) has.stands in
    let whole = take_piece at end stream rising in record {
      within = within;
      stands = subst (StandsFor q) whole (stands (take at stream) has.stands);
      all = ap commands_of (sym whole) ∙ ap (map command_of) more.due ∙ map-append command_of (frames_of (take at stream)) more.given
          ∙ ap (λ (l : List Command). l ++ map command_of more.given) has.all ∙ append_assoc given (map command_of before) (map command_of more.given)
          ∙ ap (λ (l : List Command). given ++ l) (sym (map-append command_of before more.given) ∙ ap (map command_of) (sym more.appended));
    }

-- what was given comes first
pub given_first : (c : Cursor) (stream : List ℕ) (given : List Command) → HasGivenCommands c stream given → (later : List Command) × (commands_of stream ≡ given ++ later)
given_first c stream given has =
    let rest = commands_first (take c.at stream) (drop c.at stream) in (
      map command_of c.frames ++ rest.0,
      ap commands_of (sym (take-append-drop c.at stream)) ∙ rest.1 ∙ ap (λ (l : List Command). l ++ rest.0) has.all ∙ append_assoc given (map command_of c.frames) rest.0,
    )
