-- What is kept of a text while it is read, for all formats.
use Rattle.std.proofs.Common.{◌≡◌, ℕ, List, [], ◌∷◌, ◌++◌, take, refl, sym, ◌∙◌, subst}
use Rattle.std.specs.Prelude.{Option, None, Some, Result, Ok, Err, Bool, true, false, option_to_list}
use Rattle.zy_read.specs.declared.not_taken.NotTaken.{NotTaken}
use Rattle.zy_read.specs.Bytes.{AreBytes}
use Rattle.zy_read.specs.Format.{given_by, fault_met, verdict_on}
use Rattle.zy_read.specs.Standing.{StandsAs, given_in, Feeds, TellsFault, AnswersBy}
use Rattle.zy_read.proofs.ByteLemmas.{bytes_append, bytes_take}
use Rattle.zy_read.proofs.Feeding.{given_here}
use Rattle.zy_input.specs.Keeping.{Keeper, KeepsRecords, KeepsSoFar, HasKept, IsKeeping, IsAdding, KeepsGiven, TakesBy}
use Rattle.zy_input.specs.Reading.{TakesInPart, IsFaultyText, format_kind}
use Rattle.zy_input.specs.declared.stop.Refusal.{Refusal}
use Rattle.zy_read.specs.declared.stop.Stop.{Stop}
use Rattle.zy_read.specs.declared.stop.Stop.TheVariants as Stops
use Rattle.zy_read.specs.declared.not_taken.NotTaken.TheVariants.{Fault, NoMemory}

-- before the first byte nothing is kept
pub kept_none : {P G F V K : Type 0} (keeping : Keeper P G F V K) (reader : P) (kept : Option K) → StandsAs keeping.format reader [] [] → kept ≡ None → keeping.number_of [] ≡ None → HasKept keeping reader kept []
kept_none {P} {G} {F} {V} {K} keeping reader kept stands none no_number = record {
  given = [];
  reader = stands;
  small = tt;
  kept = subst (λ (o : Option K). KeepsRecords keeping o (keeping.number_of []) []) (sym none) (subst (λ (o : Option ℕ). KeepsRecords keeping None o []) (sym no_number) refl);
}

-- ---- what is kept of a text with a number

-- nothing is not kept
pub not_none : {P G F V K : Type 0} (keeping : Keeper P G F V K) (kept : Option K) (bytes : List ℕ) (given : List G) (number : ℕ) → kept ≡ None → keeping.number_of bytes ≡ Some number → KeepsRecords keeping kept (keeping.number_of bytes) given → ⊥
not_none {P} {G} {F} {V} {K} keeping kept bytes given number none is keeps =
    subst (λ (o : Option ℕ). KeepsRecords keeping None o given) is (subst (λ (o : Option K). KeepsRecords keeping o (keeping.number_of bytes) given) none keeps)

-- this is kept of the number and the records
pub kept_here : {P G F V K : Type 0} (keeping : Keeper P G F V K) (kept : Option K) (made : K) (bytes : List ℕ) (given : List G) (number : ℕ) → kept ≡ Some made → keeping.number_of bytes ≡ Some number → KeepsRecords keeping kept (keeping.number_of bytes) given → keeping.holds made number given
kept_here {P} {G} {F} {V} {K} keeping kept made bytes given number some is keeps =
    subst (λ (o : Option ℕ). KeepsRecords keeping (Some made) o given) is (subst (λ (o : Option K). KeepsRecords keeping o (keeping.number_of bytes) given) some keeps)

-- ---- further bytes

-- a number that was read stays
abbrev pub Stays : {P G F V K : Type 0} → Keeper P G F V K → Type 0
Stays keeping = (bytes more : List ℕ) (number : ℕ) → AreBytes bytes → keeping.number_of bytes ≡ Some number → keeping.number_of (bytes ++ more) ≡ Some number

-- so what was kept is kept so far after further bytes
pub kept_on : {P G F V K : Type 0} (keeping : Keeper P G F V K) → Stays keeping → (kept : Option K) (given : List G) (bytes more : List ℕ) → AreBytes bytes → KeepsRecords keeping kept (keeping.number_of bytes) given → KeepsSoFar keeping kept (keeping.number_of (bytes ++ more)) given
kept_on {P} {G} {F} {V} {K} keeping stays kept given bytes more small keeps = go kept (keeping.number_of bytes) refl keeps
  where
    go : (kept : Option K) (number : Option ℕ) → keeping.number_of bytes ≡ number → KeepsRecords keeping kept number given → KeepsSoFar keeping kept (keeping.number_of (bytes ++ more)) given
    go None None is keeps = keeps
    go None (Some n) is keeps = absurd keeps
    go (Some made) None is keeps = absurd keeps
    go (Some made) (Some n) is keeps = subst (λ (o : Option ℕ). KeepsSoFar keeping (Some made) o given) (sym (stays bytes more n small is)) keeps

-- after bytes without a fault
abbrev pub keeping_on : {P G F V K : Type 0} (keeping : Keeper P G F V K) → Stays keeping → (old new : P) (kept : Option K) (bytes next : List ℕ) (count : ℕ) (gave : Option G) (answer : Result (Option G) (NotTaken F)) → answer ≡ Ok gave → HasKept keeping old kept bytes → AreBytes next
    → Feeds keeping.format old new (take count next) (given_in answer) → TellsFault keeping.format old (take count next) answer → IsKeeping keeping new kept gave
keeping_on {P} {G} {F} keeping stays old new kept bytes next count gave answer is has small feeds tells = record {
  given = has.given;
  bytes = bytes ++ take count next;
  reader = subst (λ (a : Result (Option G) (NotTaken F)). Feeds keeping.format old new (take count next) (given_in a)) is feeds has.given bytes has.reader;
  small = bytes_append bytes (take count next) has.small (bytes_take count next small);
  clean = subst (λ (a : Result (Option G) (NotTaken F)). TellsFault keeping.format old (take count next) a) is tells has.given bytes has.reader;
  kept = kept_on keeping stays kept has.given bytes (take count next) has.small has.kept;
}

-- the records of this text are kept, but for the one that the reader gave
abbrev pub KeepsAt : {P G F V K : Type 0} → Keeper P G F V K → P → Option K → Option G → List ℕ → Type 0
KeepsAt keeping place made gave text = (is : IsKeeping keeping place made gave) × (is.bytes ≡ text)

-- by the answer of the reader the part goes on, is whole, or is read no further
pub taken_on : {P G F V K Part T : Type 0} (keeping : Keeper P G F V K) (good : V → Bool) (refused : F → Refusal) (stands : Part → List ℕ → Type 0) (gives : T → List ℕ → Type 0) (place : P) (before after : Option K) (part : Part) (text : List ℕ) (answer : Result (Option G) (NotTaken F)) (result : Result Bool (Stop Refusal)) (done : Bool)
    → (HasKept keeping place after text → stands part text) → ((gave : Option G) → answer ≡ Ok gave → KeepsAt keeping place before gave text) → AnswersBy keeping.format place (λ b. good (verdict_on keeping.format b)) done
    → ((fault : F) → answer ≡ Err (Fault fault) → (more : List ℕ) → IsFaultyText keeping.format good refused (text ++ more) (refused fault)) → TakesBy keeping refused place before after done answer result → TakesInPart (format_kind keeping.format good refused stands gives) part text result
taken_on {P} {G} {F} {V} {K} {Part} {T} keeping good refused stands gives place before after part text answer result done here keeps answers faulty by = go answer result refl by
  where
    kept : (gave : Option G) → KeepsAt keeping place before gave text → KeepsGiven keeping place before after gave → stands part text
    kept gave at given =
        let is = at.0 in
        here (subst (λ (l : List ℕ). HasKept keeping place after l) at.1 (record { given = is.given ++ option_to_list gave; reader = is.reader; small = is.small; kept = given is.given is.bytes is.reader is.kept }))

    clean : (gave : Option G) → KeepsAt keeping place before gave text → fault_met keeping.format text ≡ None
    clean gave at = subst (λ (l : List ℕ). fault_met keeping.format l ≡ None) at.1 at.0.clean

    whole : (gave : Option G) (is : Bool) → KeepsAt keeping place before gave text → is ≡ done → good (verdict_on keeping.format text) ≡ is
    whole gave is at same = subst (λ (l : List ℕ). good (verdict_on keeping.format l) ≡ is) at.1 (sym (same ∙ answers (at.0.given ++ option_to_list gave) at.0.bytes at.0.reader))

    go : (a : Result (Option G) (NotTaken F)) (r : Result Bool (Stop Refusal)) → answer ≡ a → TakesBy keeping refused place before after done a r → TakesInPart (format_kind keeping.format good refused stands gives) part text r
    go (Ok gave) (Ok true) same takes = (kept gave (keeps gave same) takes.1, whole gave true (keeps gave same) takes.0)
    go (Ok gave) (Ok false) same takes = (kept gave (keeps gave same) takes.1, (clean gave (keeps gave same), whole gave false (keeps gave same) takes.0))
    go (Ok gave) (Err Stops.NoMemory) same takes = tt
    go (Ok gave) (Err (Stops.Refused refusal)) same takes = absurd takes
    go (Ok gave) (Err Stops.ReadFault) same takes = absurd takes
    go (Err (Fault fault)) r same takes = subst (λ (x : Result Bool (Stop Refusal)). TakesInPart (format_kind keeping.format good refused stands gives) part text x) (sym takes) (λ more. faulty fault same more)
    go (Err NoMemory) r same takes = subst (λ (x : Result Bool (Stop Refusal)). TakesInPart (format_kind keeping.format good refused stands gives) part text x) (sym takes) tt

-- ---- a further record

last_of_two : {G : Type 0} (given : List G) (item : G) → given ++ item ∷ [] ≡ [] → ⊥
last_of_two [] item is = cc
last_of_two (first ∷ given) item is = cc

-- the records of the text are those that are kept and this one
pub given_last : {P G F V K : Type 0} (keeping : Keeper P G F V K) (reader : P) (kept : Option K) (item : G) → (is : IsAdding keeping reader kept item) → given_by keeping.format is.bytes ≡ is.given ++ item ∷ []
given_last keeping reader kept item is = given_here keeping.format reader (is.given ++ item ∷ []) is.bytes is.reader

-- so it has some
pub given_some : {P G F V K : Type 0} (keeping : Keeper P G F V K) (reader : P) (kept : Option K) (item : G) → (is : IsAdding keeping reader kept item) → given_by keeping.format is.bytes ≡ [] → ⊥
given_some keeping reader kept item is none = last_of_two is.given item (sym (given_last keeping reader kept item is) ∙ none)
