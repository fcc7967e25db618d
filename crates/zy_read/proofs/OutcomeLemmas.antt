-- What a text of fields is: its verdict is good if and only if whole fields lead to an end, and a fault if and only if
-- it has that fault.
use Rattle.std.proofs.Common.{◌≡◌, inl, inr, ℕ, ◌+◌, ◌-◌, ◌<◌, ◌≤◌, Bool, true, false, List, [], ◌∷◌, ◌++◌, length, refl, sym, ◌∙◌, ap, subst, arith, append_assoc, length-append}
use Rattle.std.specs.Prelude.{◌&&◌, not, nat_lt, nat_le, if◌then◌else◌, Option, None, Some, option_to_list}
use Rattle.std.specs.List.{concat}
use Rattle.std.proofs.lemmas.List.{append-nil}
use Rattle.std.proofs.lemmas.Bool.{ltb-true, ltb-false, cases_lt}
use Rattle.std.proofs.lemmas.Bool.Decides.{nat_tests}
use Rattle.zy_read.specs.Format.{Step, Reading, read_on}
use Rattle.zy_read.specs.Fields.{Judged, Fields, IsWrong, IsLawful, Place, at_state, grown_by, moved, judged_at, field_step, is_full, step_by, step}
use Rattle.zy_read.specs.Fields.Judged.{Then, Gives, Wrong}
use Rattle.zy_read.specs.Runs.{GoesOn, Begins, HasRoom, HasFault}
use Rattle.zy_read.proofs.RunLemmas.{concat_append, concat_one, runs_join}
use Rattle.zy_read.proofs.FieldLemmas.{room_less}

-- ---- what was read

-- a text, read up to there without a fault
pub record IsReadTo {S G F : Type 0} (fields : Fields S G F) (p : Place S F) (given : List G) (text : List ℕ) : Type 0 where
  pub begins : Begins fields text p.state given p.seen
  pub count : p.at ≡ length text
  pub part : length p.seen < fields.width p.state
  pub short : p.at ≤ fields.limit

-- a text, read up to there, where this fault was met or none
abbrev pub IsRead : {S G F : Type 0} → Fields S G F → Option F → Place S F → List G → List ℕ → Type 0
IsRead fields None p given text = IsReadTo fields p given text
IsRead fields (Some fault) p given text = HasFault fields text p.state fault

-- ---- one byte

chosen : {X : Type 0} (P : X → Type 0) (test : Bool) (x y : X) → (test ≡ true → P x) → (test ≡ false → P y) → P (if test then x else y)
chosen P true x y first second = first refl
chosen P false x y first second = second refl

-- the text is read up to where a step leads
abbrev Leads : {S G F : Type 0} → Fields S G F → List G → List ℕ → Step (Place S F) G → Type 0
Leads fields given text s = IsRead fields s.next.fault s.next (given ++ option_to_list s.gave) text

-- further bytes after the rest
abbrev begins_on : {S G F : Type 0} (fields : Fields S G F) (text : List ℕ) (s : S) (given : List G) (rest more longer : List ℕ) → rest ++ more ≡ longer → Begins fields text s given rest → Begins fields (text ++ more) s given longer
begins_on fields text s given rest more longer is begins = record {
  parts = begins.parts;
  runs = begins.runs;
  text_is = ap (λ (l : List ℕ). l ++ more) begins.text_is ∙ append_assoc (concat begins.parts) rest more ∙ ap (λ (l : List ℕ). concat begins.parts ++ l) is;
  short = begins.short;
}

-- so does a fault stay
fault_on : {S G F : Type 0} (fields : Fields S G F) (text : List ℕ) (s : S) (fault : F) (more : List ℕ) → HasFault fields text s fault → HasFault fields (text ++ more) s fault
fault_on fields text s fault more (inl has) = inl (record {
  given = has.given;
  field = has.field;
  rest = has.rest ++ more;
  begins = begins_on fields text s has.given (has.field ++ has.rest) more (has.field ++ (has.rest ++ more)) (append_assoc has.field has.rest more) has.begins;
  size = has.size;
  room = has.room;
  wrong = has.wrong;
})
fault_on fields text s fault more (inr has) = inr (
  record {
    given = has.0.given;
    seen = has.0.seen;
    byte = has.0.byte;
    rest = has.0.rest ++ more;
    begins = begins_on fields text s has.0.given (has.0.seen ++ has.0.byte ∷ has.0.rest) more (has.0.seen ++ has.0.byte ∷ (has.0.rest ++ more)) (append_assoc has.0.seen (has.0.byte ∷ has.0.rest) more) has.0.begins;
    no_end = has.0.no_end;
    part = has.0.part;
    most = has.0.most;
  },
  has.1,
)

-- the number of bytes before and within a field
sized : {S G F : Type 0} (fields : Fields S G F) (p : Place S F) (given : List G) (text : List ℕ) (read : IsReadTo fields p given text) → p.at ≡ length (concat read.begins.parts) + length p.seen
sized fields p given text read = read.count ∙ ap (λ (l : List ℕ). length l) read.begins.text_is ∙ length-append (concat read.begins.parts) p.seen

-- a byte where the text has its most bytes
byte_full : {S G F : Type 0} (fields : Fields S G F) (p : Place S F) (given : List G) (text : List ℕ) (byte : ℕ) → (not (fields.is_end p.state) && nat_le fields.limit p.at) ≡ true → IsReadTo fields p given text → HasFault fields (text ++ byte ∷ []) p.state fields.too_long
byte_full fields p given text byte full read =
    let all = sized fields p given text read in
    let most : p.at ≡ fields.limit = (let short = read.short in grind (arith, nat_tests)) in
    inr (
      record {
        given = given;
        seen = p.seen;
        byte = byte;
        rest = [];
        begins = begins_on fields text p.state given p.seen (byte ∷ []) (p.seen ++ byte ∷ []) refl read.begins;
        no_end = elim (fields.is_end p.state) as (λ b. (not b && nat_le fields.limit p.at) ≡ true → b ≡ false) [ true ↦ λ no. cc | false ↦ λ yes. refl ] full;
        part = read.part;
        most = sym all ∙ most;
      },
      refl,
    )

-- the text up to the last byte of a field
field_text : {S G F : Type 0} (fields : Fields S G F) (p : Place S F) (given : List G) (text : List ℕ) (byte : ℕ) (read : IsReadTo fields p given text) → text ++ byte ∷ [] ≡ concat read.begins.parts ++ (p.seen ++ byte ∷ [])
field_text fields p given text byte read = ap (λ (l : List ℕ). l ++ byte ∷ []) read.begins.text_is ∙ append_assoc (concat read.begins.parts) p.seen (byte ∷ [])

-- after a whole field that is not wrong
next_read : {S G F : Type 0} (fields : Fields S G F) (lawful : IsLawful fields) (p : Place S F) (given gave : List G) (text : List ℕ) (byte : ℕ) (next : S) → IsReadTo fields p given text → p.at + 1 ≤ fields.limit → fields.width p.state ≡ length p.seen + 1
    → GoesOn (fields.judge p.state (p.at - length p.seen) (p.seen ++ byte ∷ [])) (λ n rest. (next ≡ n) × (rest ≡ [])) gave → IsReadTo fields (at_state next (p.at + 1)) (given ++ gave) (text ++ byte ∷ [])
next_read {S} {G} fields lawful p given gave text byte next read few size goes =
    let parts : List (List ℕ) = read.begins.parts in
    let field : List ℕ = p.seen ++ byte ∷ [] in
    let longer : length field ≡ length p.seen + 1 = length-append p.seen (byte ∷ []) in
    let all : p.at ≡ length (concat parts) + length p.seen = sized fields p given text read in
    let place : p.at - length p.seen ≡ 0 + length (concat parts) = omega (arith, all) in
    let joined : concat (parts ++ field ∷ []) ≡ concat parts ++ field = concat_append parts (field ∷ []) ∙ ap (λ (l : List ℕ). concat parts ++ l) (concat_one field) in
    let whole : text ++ byte ∷ [] ≡ concat (parts ++ field ∷ []) = field_text fields p given text byte read ∙ sym joined in
    let count : length (text ++ byte ∷ []) ≡ length text + 1 = length-append text (byte ∷ []) in
    record {
      begins = record {
        parts = parts ++ field ∷ [];
        runs = runs_join fields parts (field ∷ []) fields.start p.state next 0 (p.at - length p.seen) given gave place read.begins.runs (longer ∙ sym size, goes);
        text_is = whole ∙ sym (append-nil (concat (parts ++ field ∷ [])));
        short = omega (arith, ap (λ (l : List ℕ). length l) whole, count, read.count, few);
      };
      count = omega (arith, count, read.count);
      part = lawful.some next;
      short = few;
    }

-- after a whole field that is not wrong the text has at most its most bytes
few_more : {S G F : Type 0} (fields : Fields S G F) (lawful : IsLawful fields) (p : Place S F) (given : List G) (text : List ℕ) (byte : ℕ) → (IsWrong (fields.judge p.state (p.at - length p.seen) (p.seen ++ byte ∷ [])) → ⊥) → IsReadTo fields p given text → fields.width p.state ≡ length p.seen + 1 → HasRoom fields p.state (p.at + 1)
    → p.at + 1 ≤ fields.limit
few_more fields lawful p given text byte right read size (inr few) = few
few_more fields lawful p given text byte right read size (inl end_is) =
    let one = lawful.one p.state end_is in
    elim (cases_lt p.at fields.limit) [
      | inl few ↦ omega (arith, few)
      | inr full ↦ absurd (right (lawful.ends p.state (p.at - length p.seen) (p.seen ++ byte ∷ []) end_is (omega (arith, one, size, full))))
    ]

-- what a whole field does
judged_leads : {S G F : Type 0} (fields : Fields S G F) (lawful : IsLawful fields) (p : Place S F) (given : List G) (text : List ℕ) (byte : ℕ) (judged : Judged S G F) → IsReadTo fields p given text → HasRoom fields p.state (p.at + 1) → fields.width p.state ≡ length p.seen + 1
    → fields.judge p.state (p.at - length p.seen) (p.seen ++ byte ∷ []) ≡ judged → Leads fields given (text ++ byte ∷ []) (moved p judged)
judged_leads {S} {G} {F} fields lawful p given text byte (Then next) read room size is =
    let few : p.at + 1 ≤ fields.limit = few_more fields lawful p given text byte (λ wrong. subst IsWrong is wrong) read size room in
    next_read fields lawful p given [] text byte next read few size (subst (λ (j : Judged S G F). GoesOn j (λ n rest. (next ≡ n) × (rest ≡ [])) []) (sym is) (refl, refl))
judged_leads {S} {G} {F} fields lawful p given text byte (Gives next item) read room size is =
    let few : p.at + 1 ≤ fields.limit = few_more fields lawful p given text byte (λ wrong. subst IsWrong is wrong) read size room in
    next_read fields lawful p given (item ∷ []) text byte next read few size (subst (λ (j : Judged S G F). GoesOn j (λ n rest. (next ≡ n) × (rest ≡ [])) (item ∷ [])) (sym is) ([], refl, (refl, refl)))
judged_leads {S} {G} {F} fields lawful p given text byte (Wrong fault) read room size is =
    let all : p.at ≡ length (concat read.begins.parts) + length p.seen = sized fields p given text read in
    let longer : length (p.seen ++ byte ∷ []) ≡ length p.seen + 1 = length-append p.seen (byte ∷ []) in
    let place : p.at - length p.seen ≡ length (concat read.begins.parts) = omega (arith, all) in
    inl (record {
      given = given;
      field = p.seen ++ byte ∷ [];
      rest = [];
      begins = begins_on fields text p.state given p.seen (byte ∷ []) ((p.seen ++ byte ∷ []) ++ []) (sym (append-nil (p.seen ++ byte ∷ []))) read.begins;
      size = longer ∙ sym size;
      room = room_less fields p.state (p.at + 1) (length (concat read.begins.parts) + length (p.seen ++ byte ∷ [])) (omega (arith, longer, all)) room;
      wrong = ap (λ (n : ℕ). fields.judge p.state n (p.seen ++ byte ∷ [])) (sym place) ∙ is;
    })

-- a byte, where there is room
field_leads : {S G F : Type 0} (fields : Fields S G F) (lawful : IsLawful fields) (p : Place S F) (given : List G) (text : List ℕ) (byte : ℕ) → p.fault ≡ None → IsReadTo fields p given text → HasRoom fields p.state (p.at + 1) → Leads fields given (text ++ byte ∷ []) (field_step fields p byte)
field_leads {S} {G} {F} fields lawful p given text byte none read room =
    chosen (Leads fields given (text ++ byte ∷ [])) (nat_lt (length p.seen + 1) (fields.width p.state)) _ _
    (λ short.
    let less : length p.seen + 1 < fields.width p.state = ltb-true (length p.seen + 1) (fields.width p.state) short in
    let few : p.at + 1 ≤ fields.limit = elim room [ inl end_is ↦ absurd (let one = lawful.one p.state end_is in omega (arith, one, less)) | inr few ↦ few ] in
    subst (λ (o : Option F). IsRead fields o (grown_by p (byte ∷ [])) (given ++ []) (text ++ byte ∷ [])) (sym none)
    (subst (λ (l : List G). IsReadTo fields (grown_by p (byte ∷ [])) l (text ++ byte ∷ [])) (sym (append-nil given)) (record {
      begins = begins_on fields text p.state given p.seen (byte ∷ []) (p.seen ++ byte ∷ []) refl read.begins;
      count = omega (arith, read.count, length-append text (byte ∷ []));
      part = omega (arith, less, length-append p.seen (byte ∷ []));
      short = few;
    })))
    (λ long.
    let last : fields.width p.state ≤ length p.seen + 1 = ltb-false (length p.seen + 1) (fields.width p.state) long in
    judged_leads fields lawful p given text byte (judged_at fields p byte) read room (omega (arith, last, read.part)) refl)

has_room : {S G F : Type 0} (fields : Fields S G F) (s : S) (at : ℕ) → (not (fields.is_end s) && nat_le fields.limit at) ≡ false → HasRoom fields s (at + 1)
has_room fields s at room = elim (fields.is_end s) as (λ b. fields.is_end s ≡ b → (not b && nat_le fields.limit at) ≡ false → HasRoom fields s (at + 1)) [
  | true ↦ λ is free. inl is
  | false ↦ λ is free. inr (grind (arith, nat_tests))
] refl room

-- a byte
step_leads : {S G F : Type 0} (fields : Fields S G F) (lawful : IsLawful fields) (p : Place S F) (given : List G) (text : List ℕ) (byte : ℕ) (fault : Option F) → p.fault ≡ fault → IsRead fields fault p given text → Leads fields given (text ++ byte ∷ []) (step_by fault fields p byte)
step_leads {S} {G} {F} fields lawful p given text byte None is read =
    chosen (Leads fields given (text ++ byte ∷ [])) (is_full fields p) _ _
    (λ full. byte_full fields p given text byte full read)
    (λ room. field_leads fields lawful p given text byte is read (has_room fields p.state p.at room))
step_leads {S} {G} {F} fields lawful p given text byte (Some fault) is read =
    subst (λ (o : Option F). IsRead fields o p (given ++ []) (text ++ byte ∷ [])) (sym is) (fault_on fields text p.state fault (byte ∷ []) read)

-- ---- a whole text

pub read_whole : {S G F : Type 0} (fields : Fields S G F) (lawful : IsLawful fields) (more : List ℕ) (p : Place S F) (given : List G) (text : List ℕ) → IsRead fields p.fault p given text
    → IsRead fields (read_on (step fields) p more).last.fault (read_on (step fields) p more).last (given ++ (read_on (step fields) p more).given) (text ++ more)
unfolding read_on
read_whole {S} {G} {F} fields lawful [] p given text read =
    rw (append-nil given, append-nil text) read
read_whole {S} {G} {F} fields lawful (byte ∷ more) p given text read =
    let s : Step (Place S F) G = step fields p byte in
    let r : Reading (Place S F) G = read_on (step fields) s.next more in
    let on : IsRead fields r.last.fault r.last ((given ++ option_to_list s.gave) ++ r.given) ((text ++ byte ∷ []) ++ more) =
    read_whole fields lawful more s.next (given ++ option_to_list s.gave) (text ++ byte ∷ []) (step_leads fields lawful p given text byte p.fault refl read) in
    subst (λ (l : List ℕ). IsRead fields r.last.fault r.last (given ++ (option_to_list s.gave ++ r.given)) l) (append_assoc text (byte ∷ []) more)
    (subst (λ (l : List G). IsRead fields r.last.fault r.last l ((text ++ byte ∷ []) ++ more)) (append_assoc given (option_to_list s.gave) r.given) on)

-- what is read of a text
pub text_read : {S G F : Type 0} (fields : Fields S G F) (lawful : IsLawful fields) (text : List ℕ)
    → IsRead fields (read_on (step fields) (at_state fields.start 0) text).last.fault (read_on (step fields) (at_state fields.start 0) text).last (read_on (step fields) (at_state fields.start 0) text).given text
text_read fields lawful text =
    read_whole fields lawful text (at_state fields.start 0) [] [] (record {
      begins = record { parts = []; runs = (refl, refl); text_is = refl; short = omega arith };
      count = refl;
      part = lawful.some fields.start;
      short = omega arith;
    })
