-- Whole fields that are fed at once.
use Rattle.std.proofs.Common.{◌≡◌, ℕ, ◌+◌, ◌≤◌, true, false, List, [], length, take, sym, ◌∙◌, ap, subst, arith}
use Rattle.std.specs.Prelude.{Option, None, Some, Result, Ok, Err, is_ok}
use Rattle.std.specs.List.{concat}
use Rattle.std.proofs.lemmas.List.{append-nil, take-take, length-take-le}
use Rattle.zy_read.specs.declared.not_taken.NotTaken.{NotTaken}
use Rattle.zy_read.specs.declared.not_taken.NotTaken.TheVariants.{Fault, NoMemory}
use Rattle.zy_read.specs.Format.{read_on}
use Rattle.zy_read.specs.Fields.{Judged, Fields, IsLawful, Place, at_state, step, format_of}
use Rattle.zy_read.specs.Fields.Judged.{Then}
use Rattle.zy_read.specs.Runs.{RunsOver}
use Rattle.zy_read.specs.FieldReading.{Judges, IsQuiet}
use Rattle.zy_read.specs.Standing.{Feeds}
use Rattle.zy_read.proofs.Feeding.{fed_by}
use Rattle.zy_read.proofs.FieldLemmas.{runs_read}

-- a field that gives no record leads to a state
pub quiet_then : {S G F : Type 0} (Fits : S → ℕ → Type 0) (Wants : S → Type 0) (judged : Judged S G F) (after : ℕ) (old new : S) (answer : Result (Option G) (NotTaken F)) → Judges Fits Wants judged after old new answer → is_ok answer ≡ true → IsQuiet judged → (judged ≡ Then new) × Fits new after
quiet_then Fits Wants judged after old new (Ok None) judges ok quiet = judges
quiet_then Fits Wants judged after old new (Ok (Some item)) judges ok quiet = absurd (subst IsQuiet judges.0 quiet)
quiet_then Fits Wants judged after old new (Err e) judges ok quiet = cc

-- where it is wrong or wants memory that is refused, the state stays
pub judged_kept : {S G F : Type 0} (Fits : S → ℕ → Type 0) (Wants : S → Type 0) (judged : Judged S G F) (after : ℕ) (old new : S) (answer : Result (Option G) (NotTaken F)) → Judges Fits Wants judged after old new answer → is_ok answer ≡ false → new ≡ old
judged_kept Fits Wants judged after old new (Ok gave) judges refused = cc
judged_kept Fits Wants judged after old new (Err (Fault fault)) judges refused = judges.1
judged_kept Fits Wants judged after old new (Err NoMemory) judges refused = judges.0

-- whole fields that give no record are fed
pub over_fed : {S G F V : Type 0} (fields : Fields S G F) (lawful : IsLawful fields) (good : S → List G → V) (bad : F → V) (p q : Place S F) (text : List ℕ) → p.fault ≡ None → p.seen ≡ [] → RunsOver fields p.state p.at text q.state [] → p.at + length text ≤ fields.limit → q ≡ at_state q.state (p.at + length text)
    → Feeds (format_of fields good bad) p q text []
unfolding read_on
over_fed {S} {G} {F} fields lawful good bad p q text none first over room same =
    let here : p ≡ at_state p.state p.at = ap (λ (l : List ℕ). record { state = p.state; seen = l; at = p.at; fault = p.fault }) first ∙ ap (λ (o : Option F). record { state = p.state; seen = []; at = p.at; fault = o }) none in
    let size : length text ≡ length (concat over.parts) = ap (λ (l : List ℕ). length l) (sym over.text_is) in
    fed_by (format_of fields good bad) p q text []
    (ap (λ (x : Place S F). read_on (step fields) x text) here
    ∙ ap (λ (l : List ℕ). read_on (step fields) (at_state p.state p.at) l) (sym over.text_is ∙ sym (append-nil (concat over.parts)))
    ∙ runs_read fields lawful over.parts p.state q.state p.at (p.at + length text) [] [] (omega (arith, size)) room over.runs
    ∙ ap (λ (x : Place S F). record { given = []; last = x }) (sym same))

-- the same within a piece
pub front_fed : {S G F V : Type 0} (fields : Fields S G F) (lawful : IsLawful fields) (good : S → List G → V) (bad : F → V) (p q : Place S F) (bytes : List ℕ) (most run : ℕ) → p.fault ≡ None → p.seen ≡ [] → RunsOver fields p.state p.at (take run (take most bytes)) q.state [] → run ≤ most → most ≤ length bytes → p.at + most ≤ fields.limit
    → q ≡ at_state q.state (p.at + run) → Feeds (format_of fields good bad) p q (take run bytes) []
front_fed {S} {G} {F} fields lawful good bad p q bytes most run none first over within fits room same =
    let is : take run (take most bytes) ≡ take run bytes = take-take run most bytes within in
    let size : length (take run bytes) ≡ run = length-take-le run bytes (omega (arith, within, fits)) in
    over_fed fields lawful good bad p q (take run bytes) none first (subst (λ (l : List ℕ). RunsOver fields p.state p.at l q.state []) is over) (omega (arith, size, room, within)) (same ∙ ap (λ (n : ℕ). at_state q.state (p.at + n)) (sym size))
