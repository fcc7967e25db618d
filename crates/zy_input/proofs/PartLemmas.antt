-- What is read of a part, piece after piece, for all kinds of parts.
use Rattle.std.proofs.Common.{◌≡◌, ◌⊎◌, inl, inr, ℕ, ◌<◌, ◌≤◌, Bool, true, false, List, [], ◌++◌, length, take, drop, refl, sym, ◌∙◌, ap, subst, arith, append_assoc}
use Rattle.std.specs.Prelude.{Option, None, Some, IfSome, Result, Ok, Err}
use Rattle.std.specs.Io.KnownBytes.{Consumes}
use Rattle.std.proofs.lemmas.List.{append-nil, take-append-drop, length-take-le}
use Rattle.zy_read.specs.declared.stop.Stop.{Stop}
use Rattle.zy_input.specs.declared.stop.Refusal.{Refusal}
use Rattle.zy_read.specs.declared.stop.Stop.TheVariants.{Refused, ReadFault, NoMemory}
use Rattle.zy_read.specs.Bytes.{AreBytes, ReadsAll}
use Rattle.zy_read.specs.Piece.{HasGiven, IsOver}
use Rattle.zy_read.proofs.SourceLemmas.{consumed_none, told_first}
use Rattle.zy_input.specs.Reading.{Kind, HasFaultBehind, TakesInPart, AdvancesPart, IsReading, HasReadPart}

-- ---- where a part begins

-- at first the source gave nothing
pub given_none : {S : Type 0} (rest : S → Option (List ℕ)) (faults : S → ℕ) (first : S) (left : List ℕ) → left ≡ [] → HasGiven rest faults first first left []
given_none rest faults first left none = record {
  source = subst (λ (l : List ℕ). Consumes (rest first) (rest first) l) (sym none) (consumed_none (rest first));
  bytes = subst AreBytes (sym none) tt;
  count = omega arith;
}

-- before the first byte of a part
pub begun : {P T S : Type 0} (kind : Kind P T) (rest : S → Option (List ℕ)) (faults : S → ℕ) (first now : S) (left before : List ℕ) (part : P) → HasGiven rest faults first now left before → kind.stands part [] → kind.goes_on [] → IsReading kind rest faults first now left before [] part
begun kind rest faults first now left before part given stands goes_on = record {
  given = subst (λ (l : List ℕ). HasGiven rest faults first now left l) (sym (append-nil before)) given;
  stands = stands;
  goes_on = goes_on;
}

-- ---- further bytes

-- the bytes of the part and then the others, after what came before
regrouped : (before bytes left more : List ℕ) → ((before ++ bytes) ++ left) ++ more ≡ before ++ (bytes ++ (left ++ more))
regrouped before bytes left more = append_assoc (before ++ bytes) left more ∙ append_assoc before bytes (left ++ more)

-- the first bytes of the rest of the piece are the next bytes of the part
taken_from : (before bytes left : List ℕ) (count : ℕ) → (before ++ bytes) ++ left ≡ (before ++ (bytes ++ take count left)) ++ drop count left
taken_from before bytes left count =
    ap (λ (l : List ℕ). (before ++ bytes) ++ l) (sym (take-append-drop count left))
    ∙ sym (append_assoc (before ++ bytes) (take count left) (drop count left))
    ∙ ap (λ (l : List ℕ). l ++ drop count left) (append_assoc before bytes (take count left))

-- further bytes of a part
given_on : {S : Type 0} (rest : S → Option (List ℕ)) (faults : S → ℕ) (first now : S) (left before bytes : List ℕ) (count : ℕ) → HasGiven rest faults first now left (before ++ bytes)
    → HasGiven rest faults first now (drop count left) (before ++ (bytes ++ take count left))
given_on rest faults first now left before bytes count given = record {
  source = subst (λ (l : List ℕ). Consumes (rest first) (rest now) l) (taken_from before bytes left count) given.source;
  bytes = subst AreBytes (taken_from before bytes left count) given.bytes;
  count = given.count;
}

-- where the bytes that were taken lead
pub took : {P T S : Type 0} (kind : Kind P T) (rest : S → Option (List ℕ)) (faults : S → ℕ) (first now : S) (left before bytes : List ℕ) (count : ℕ) (reader : P) (answer : Result Bool (Stop Refusal)) → HasGiven rest faults first now left (before ++ bytes) → count ≤ length left → ((whole : Bool) → answer ≡ Ok whole → 0 < count)
    → TakesInPart kind reader (bytes ++ take count left) answer → AdvancesPart kind rest faults first now (drop count left) before bytes reader answer
took kind rest faults first now left before bytes count reader (Ok false) given within some takes =
    (take count left, (let size = length-take-le count left within in let more = some false refl in omega arith), record { given = given_on rest faults first now left before bytes count given; stands = takes.0; goes_on = takes.1 })
took kind rest faults first now left before bytes count reader (Ok true) given within some takes = record {
  bytes = bytes ++ take count left;
  given = given_on rest faults first now left before bytes count given;
  stands = takes.0;
  end = inl takes.1;
}
took kind rest faults first now left before bytes count reader (Err (Refused refusal)) given within some takes =
    let taken : List ℕ = bytes ++ take count left in
    let others : List ℕ = drop count left in (
      (taken ++ [], takes []),
      told_first (rest first) (rest now) ((before ++ taken) ++ others) (λ (text : List ℕ). HasFaultBehind kind before text refusal) (given_on rest faults first now left before bytes count given).source
          (λ more. record { rest = taken ++ (others ++ more); whole = regrouped before taken others more; faulty = takes (others ++ more) }),
    )
took kind rest faults first now left before bytes count reader (Err ReadFault) given within some takes = absurd takes
took kind rest faults first now left before bytes count reader (Err NoMemory) given within some takes = tt

-- ---- a part that ends with the source

pub if_some : (told : Option (List ℕ)) (P Q : List ℕ → Type 0) → ((text : List ℕ) → P text → Q text) → IfSome told P → IfSome told Q
if_some None P Q implies holds = tt
if_some (Some text) P Q implies holds = implies text holds

-- if no bytes are whole whatever follows, the source is at its end after the part
over : {P T S : Type 0} (kind : Kind P T) (rest : S → Option (List ℕ)) (faults : S → ℕ) (first now : S) (left before : List ℕ) (gave : T) → ((bytes : List ℕ) → kind.whole bytes → ⊥) → HasReadPart kind rest faults first now left before gave → IsOver (rest now) left
over kind rest faults first now left before gave none has = go has.end
  where
    go : kind.whole has.bytes ⊎ IsOver (rest now) left → IsOver (rest now) left
    go (inl whole) = absurd (none has.bytes whole)
    go (inr is) = is

-- and what it gave is what came before the part, and then the part
pub read_all : {P T S : Type 0} (kind : Kind P T) (rest : S → Option (List ℕ)) (faults : S → ℕ) (first now : S) (left before : List ℕ) (gave : T) → ((bytes : List ℕ) → kind.whole bytes → ⊥) → (has : HasReadPart kind rest faults first now left before gave) → ReadsAll (rest first) (rest now) (before ++ has.bytes)
read_all kind rest faults first now left before gave none has =
    let end = over kind rest faults first now left before gave none has in
    let text : List ℕ = before ++ has.bytes in
    let all : text ++ left ≡ text = ap (λ (l : List ℕ). text ++ l) end.0 ∙ append-nil text in
    (subst (λ (l : List ℕ). Consumes (rest first) (rest now) l) all has.given.source, end.1, subst AreBytes all has.given.bytes)
