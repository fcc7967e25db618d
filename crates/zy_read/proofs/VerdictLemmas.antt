-- What a good verdict on a text of fields says, and the states that whole fields lead to.
use Rattle.std.proofs.Common.{◌≡◌, inl, inr, ℕ, ◌+◌, ◌-◌, ◌<◌, Bool, true, false, List, [], ◌∷◌, ◌++◌, length, refl}
use Rattle.std.proofs.Common.{◌∙◌, ap, subst, arith}
use Rattle.std.specs.Prelude.{nat_lt, if◌then◌else◌, Option, None, Some, ⊤}
use Rattle.std.specs.List.{concat}
use Rattle.std.proofs.lemmas.List.{append-nil}
use Rattle.zy_read.specs.Format.{Step, Reading, read_on, reading_of, verdict_on}
use Rattle.zy_read.specs.Fields.{Judged, Fields, IsLawful, Place, at_state, moved, judged_at, is_full, step_by, step}
use Rattle.zy_read.specs.Fields.{ended_by, format_of}
use Rattle.zy_read.specs.Fields.Judged.{Then, Gives, Wrong}
use Rattle.zy_read.specs.Runs.{Begins, IsWhole, HasFault, IsOutcome}
use Rattle.zy_read.proofs.FieldLemmas.{within, with_given, runs_read}
use Rattle.zy_read.proofs.OutcomeLemmas.{IsReadTo, IsRead, text_read}

-- ---- what a text is

no_bytes : (seen : List ℕ) → length seen < 1 → seen ≡ []
no_bytes [] few = refl
no_bytes (byte ∷ seen) few = absurd (omega (arith, few))

-- a text that was read without a fault is whole or cut
read_outcome : {S G F V : Type 0} (fields : Fields S G F) (lawful : IsLawful fields) (good : S → List G → V) (bad : F → V) (p : Place S F) (given : List G) (text : List ℕ) (is_end : Bool) → fields.is_end p.state ≡ is_end → IsReadTo fields p given text → IsOutcome fields good bad text (if is_end then good p.state given else bad (fields.truncated p.at))
read_outcome {S} {G} {F} fields lawful good bad p given text true is read =
    let none : p.seen ≡ [] = no_bytes p.seen (let one = lawful.one p.state is in omega (arith, one, read.part)) in
    inl (p.state, (given, record { begins = subst (λ (l : List ℕ). Begins fields text p.state given l) none read.begins; end_is = is }, refl))
read_outcome {S} {G} {F} {V} fields lawful good bad p given text false is read =
    inr (inl (
      record { s = p.state; given = given; seen = p.seen; begins = read.begins; no_end = is; part = read.part; within = omega (arith, read.count, read.short) },
      ap (λ (n : ℕ). bad (fields.truncated n)) read.count,
    ))

outcome_of : {S G F V : Type 0} (fields : Fields S G F) (lawful : IsLawful fields) (good : S → List G → V) (bad : F → V) (p : Place S F) (given : List G) (text : List ℕ) (fault : Option F) → IsRead fields fault p given text → IsOutcome fields good bad text (ended_by fault fields good bad p given)
outcome_of fields lawful good bad p given text None read = read_outcome fields lawful good bad p given text (fields.is_end p.state) refl read
outcome_of fields lawful good bad p given text (Some fault) read = inr (inr (p.state, (fault, read, refl)))

-- each text is whole, cut, or has a fault, and the verdict says so
pub outcome : {S G F V : Type 0} (fields : Fields S G F) (lawful : IsLawful fields) (good : S → List G → V) (bad : F → V) (text : List ℕ) → IsOutcome fields good bad text (verdict_on (format_of fields good bad) text)
unfolding verdict_on reading_of
outcome {S} {G} {F} fields lawful good bad text =
    let r : Reading (Place S F) G = read_on (step fields) (at_state fields.start 0) text in
    outcome_of fields lawful good bad r.last r.given text r.last.fault (text_read fields lawful text)

-- ---- what a text that begins with fields is read as

pub begins_read : {S G F : Type 0} (fields : Fields S G F) (lawful : IsLawful fields) (text : List ℕ) (s : S) (given : List G) (rest : List ℕ) (begins : Begins fields text s given rest)
    → read_on (step fields) (at_state fields.start 0) text ≡ with_given given (read_on (step fields) (at_state s (length (concat begins.parts))) rest)
begins_read fields lawful text s given rest begins =
    ap (λ (l : List ℕ). read_on (step fields) (at_state fields.start 0) l) begins.text_is
    ∙ runs_read fields lawful begins.parts fields.start s 0 (length (concat begins.parts)) given rest (omega arith) begins.short begins.runs

-- the verdict by what is read
pub verdict_by : {S G F V : Type 0} (fields : Fields S G F) (good : S → List G → V) (bad : F → V) (text : List ℕ) (r : Reading (Place S F) G) → read_on (step fields) (at_state fields.start 0) text ≡ r → verdict_on (format_of fields good bad) text ≡ ended_by r.last.fault fields good bad r.last r.given
unfolding verdict_on reading_of
verdict_by {S} {G} {F} fields good bad text r is = ap (λ (q : Reading (Place S F) G). ended_by q.last.fault fields good bad q.last q.given) is

-- ---- the verdict

-- whole fields that lead to an end are good
pub whole_good : {S G F V : Type 0} (fields : Fields S G F) (lawful : IsLawful fields) (good : S → List G → V) (bad : F → V) (text : List ℕ) (s : S) (given : List G) → IsWhole fields text s given → verdict_on (format_of fields good bad) text ≡ good s given
unfolding read_on
whole_good {S} {G} {F} {V} fields lawful good bad text s given whole =
    verdict_by fields good bad text (record { given = given ++ []; last = at_state s (length (concat whole.begins.parts)) }) (begins_read fields lawful text s given [] whole.begins)
    ∙ rw whole.end_is (ap (λ (l : List G). good s l) (append-nil given))

-- ---- the state

-- a whole field that is not wrong leads to a state of which this is true
abbrev pub Leaves : {S G F : Type 0} → (S → Type 0) → Judged S G F → Type 0
Leaves Holds (Then next) = Holds next
Leaves Holds (Gives next item) = Holds next
Leaves Holds (Wrong fault) = ⊤

chosen : {X : Type 0} (P : X → Type 0) (test : Bool) (x y : X) → P x → P y → P (if test then x else y)
chosen P true x y first second = first
chosen P false x y first second = second

judged_leaves : {S G F : Type 0} (Holds : S → Type 0) (p : Place S F) (judged : Judged S G F) → Holds p.state → Leaves Holds judged → Holds (moved p judged).next.state
judged_leaves Holds p (Then next) holds leaves = leaves
judged_leaves Holds p (Gives next item) holds leaves = leaves
judged_leaves Holds p (Wrong fault) holds leaves = holds

step_leaves : {S G F : Type 0} (fields : Fields S G F) (Holds : S → Type 0) → ((s : S) (at : ℕ) (field : List ℕ) → Holds s → Leaves Holds (fields.judge s at field)) → (p : Place S F) (fault : Option F) (byte : ℕ) → Holds p.state → Holds (step_by fault fields p byte).next.state
step_leaves {S} {G} {F} fields Holds keeps p (Some fault) byte holds = holds
step_leaves {S} {G} {F} fields Holds keeps p None byte holds =
    chosen (λ (k : Step (Place S F) G). Holds k.next.state) (is_full fields p) _ _ holds
    (chosen (λ (k : Step (Place S F) G). Holds k.next.state) (nat_lt (length p.seen + 1) (fields.width p.state)) _ _ holds
    (judged_leaves Holds p (judged_at fields p byte) holds (keeps p.state (p.at - length p.seen) (p.seen ++ byte ∷ []) holds)))

-- what is true of a state and of each next one is true wherever a text leads
pub state_kept : {S G F : Type 0} (fields : Fields S G F) (Holds : S → Type 0) → ((s : S) (at : ℕ) (field : List ℕ) → Holds s → Leaves Holds (fields.judge s at field)) → (text : List ℕ) (p : Place S F) → Holds p.state → Holds (read_on (step fields) p text).last.state
unfolding read_on
state_kept fields Holds keeps [] p holds = holds
state_kept fields Holds keeps (byte ∷ text) p holds = state_kept fields Holds keeps text (step fields p byte).next (step_leaves fields Holds keeps p p.fault byte holds)

-- ---- what was read is what a text begins with

-- what a text begins with, up to where it was read
pub record Reaches {S G F : Type 0} (fields : Fields S G F) (text : List ℕ) (s : S) : Type 0 where
  pub given : List G
  pub rest : List ℕ
  pub begins : Begins fields text s given rest

fault_reaches : {S G F : Type 0} (fields : Fields S G F) (text : List ℕ) (s : S) (fault : F) → HasFault fields text s fault → Reaches fields text s
fault_reaches fields text s fault (inl has) = record { given = has.given; rest = has.field ++ has.rest; begins = has.begins }
fault_reaches fields text s fault (inr has) = record { given = has.0.given; rest = has.0.seen ++ has.0.byte ∷ has.0.rest; begins = has.0.begins }

read_reaches : {S G F : Type 0} (fields : Fields S G F) (text : List ℕ) (p : Place S F) (given : List G) (fault : Option F) → IsRead fields fault p given text → Reaches fields text p.state
read_reaches fields text p given None read = record { given = given; rest = p.seen; begins = read.begins }
read_reaches fields text p given (Some fault) has = fault_reaches fields text p.state fault has

-- whole fields at its beginning lead to the last state of a text
pub text_reaches : {S G F : Type 0} (fields : Fields S G F) (lawful : IsLawful fields) (text : List ℕ) → Reaches fields text (read_on (step fields) (at_state fields.start 0) text).last.state
text_reaches {S} {G} {F} fields lawful text =
    let r : Reading (Place S F) G = read_on (step fields) (at_state fields.start 0) text in
    read_reaches fields text r.last r.given r.last.fault (text_read fields lawful text)
