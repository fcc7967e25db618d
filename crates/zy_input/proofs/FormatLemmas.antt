-- Formats in which a byte after a whole text is a fault: at most one prefix of a text is whole.
use Rattle.std.proofs.Common.{◌≡◌, ◌⊎◌, inl, inr, ⊎_elim, ℕ, Bool, true, false, true≢false, List, [], ◌∷◌, ◌++◌, refl, sym, ◌∙◌, ap, subst, append_assoc}
use Rattle.std.specs.Prelude.{Option, None, Some, option_to_list, Result, Err}
use Rattle.std.proofs.lemmas.List.{append-nil, append_cancel_left}
use Rattle.zy_read.specs.declared.not_taken.NotTaken.{NotTaken}
use Rattle.zy_read.specs.declared.not_taken.NotTaken.TheVariants.{Fault}
use Rattle.zy_read.specs.Format.{Format, IsLasting, Reading, read_on, reading_of, fault_met, verdict_on}
use Rattle.zy_read.specs.Standing.{StandsAs, given_in, Feeds, MeetsFault, TellsFault, TellsLasting}
use Rattle.zy_read.proofs.Feeding.{read_more, fed_step, verdict_here, fault_here, fault_stays, fault_lasts}
use Rattle.zy_input.specs.declared.stop.Refusal.{Refusal}
use Rattle.zy_input.specs.Reading.{IsUnfinished, IsWholeText, HasNoWhole, IsFaultyText, HasFaultBehind, format_kind, never}

-- the first fault counts, a byte after a whole text is a fault, and a text with a fault is not whole
pub record EndsOnce {P G F V : Type 0} (format : Format P G F V) (good : V → Bool) : Type 0 where
  pub lasting : IsLasting format
  pub closes : (p : P) (given : List G) (byte : ℕ) → good (format.ended p given) ≡ true → (fault : F) × (format.fault_in (format.step p byte).next ≡ Some fault)
  pub bad : (fault : F) → good (format.bad fault) ≡ false

-- ---- one text

-- a text with a fault is not whole
pub bad_not_whole : {P G F V : Type 0} (format : Format P G F V) (good : V → Bool) (once : EndsOnce format good) (text : List ℕ) (fault : F) → verdict_on format text ≡ format.bad fault → IsWholeText format good text → ⊥
bad_not_whole format good once text fault is whole = let no : good (format.bad fault) ≡ true = ap good (sym is) ∙ whole in let not : good (format.bad fault) ≡ false = once.bad fault in cc

-- a text in which a fault was met is not whole, and neither is a longer one
pub met_not_whole : {P G F V : Type 0} (format : Format P G F V) (good : V → Bool) (once : EndsOnce format good) (text more : List ℕ) (fault : F) → fault_met format text ≡ Some fault → IsWholeText format good (text ++ more) → ⊥
met_not_whole format good once text more fault met whole = bad_not_whole format good once (text ++ more) fault (fault_lasts format once.lasting text more fault met) whole

-- after a whole text a fault is met
pub whole_closes : {P G F V : Type 0} (format : Format P G F V) (good : V → Bool) (once : EndsOnce format good) (text more : List ℕ) (byte : ℕ) → IsWholeText format good text → (fault : F) × (fault_met format (text ++ byte ∷ more) ≡ Some fault)
unfolding StandsAs verdict_on
whole_closes {P} {G} {F} format good once text more byte whole =
    let r : Reading P G = reading_of format text in
    let closed : (fault : F) × (format.fault_in (format.step r.last byte).next ≡ Some fault) = once.closes r.last r.given byte whole in
    let stands : StandsAs format (format.step r.last byte).next (r.given ++ option_to_list (format.step r.last byte).gave) (text ++ byte ∷ []) = fed_step format r.last byte r.given text refl in
    let met : fault_met format (text ++ byte ∷ []) ≡ Some closed.0 = fault_here format (format.step r.last byte).next (r.given ++ option_to_list (format.step r.last byte).gave) (text ++ byte ∷ []) stands ∙ closed.1 in
    (closed.0, ap (λ (l : List ℕ). fault_met format l) (sym (append_assoc text (byte ∷ []) more)) ∙ fault_stays format once.lasting (text ++ byte ∷ []) more closed.0 met)

-- a whole text has no longer one that is whole
pub no_longer : {P G F V : Type 0} (format : Format P G F V) (good : V → Bool) (once : EndsOnce format good) (text more : List ℕ) (byte : ℕ) → IsWholeText format good text → IsWholeText format good (text ++ byte ∷ more) → ⊥
no_longer format good once text more byte whole longer =
    let closed = whole_closes format good once text more byte whole in
    met_not_whole format good once (text ++ byte ∷ more) [] closed.0 closed.1 (subst (λ (l : List ℕ). IsWholeText format good l) (sym (append-nil (text ++ byte ∷ more))) longer)

-- ---- prefixes of one text

-- of two prefixes of a text one is a prefix of the other
pub two_firsts : (a x c y : List ℕ) → a ++ x ≡ c ++ y → ((d : List ℕ) × (c ≡ a ++ d)) ⊎ ((d : List ℕ) × (a ≡ c ++ d))
two_firsts [] x c y is = inl (c, refl)
two_firsts (n ∷ a) x [] y is = inr (n ∷ a, refl)
two_firsts (n ∷ a) x (m ∷ c) y is =
    let head : n ≡ m = cc in
    let tail : a ++ x ≡ c ++ y = cc in
    go head (two_firsts a x c y tail)
  where
    go : n ≡ m → ((d : List ℕ) × (c ≡ a ++ d)) ⊎ ((d : List ℕ) × (a ≡ c ++ d)) → ((d : List ℕ) × (m ∷ c ≡ n ∷ (a ++ d))) ⊎ ((d : List ℕ) × (n ∷ a ≡ m ∷ (c ++ d)))
    go same (inl longer) = let is : c ≡ a ++ longer.0 = longer.1 in inl (longer.0, cc)
    go same (inr longer) = let is : a ≡ c ++ longer.0 = longer.1 in inr (longer.0, cc)

-- a prefix that is whole is the only one
same_first : {P G F V : Type 0} (format : Format P G F V) (good : V → Bool) (once : EndsOnce format good) (a d c : List ℕ) → c ≡ a ++ d → IsWholeText format good a → IsWholeText format good c → a ≡ c
same_first format good once a [] c is first second = sym (is ∙ append-nil a)
same_first format good once a (byte ∷ more) c is first second = absurd (no_longer format good once a more byte first (subst (λ (l : List ℕ). IsWholeText format good l) is second))

pub one_first : {P G F V : Type 0} (format : Format P G F V) (good : V → Bool) (once : EndsOnce format good) (a x c y : List ℕ) → a ++ x ≡ c ++ y → IsWholeText format good a → IsWholeText format good c → a ≡ c
one_first format good once a x c y is first second = go (two_firsts a x c y is)
  where
    go : ((d : List ℕ) × (c ≡ a ++ d)) ⊎ ((d : List ℕ) × (a ≡ c ++ d)) → a ≡ c
    go (inl longer) = same_first format good once a longer.0 c longer.1 first second
    go (inr longer) = sym (same_first format good once c longer.0 a longer.1 second first)

-- and what follows it is one
pub one_rest : {P G F V : Type 0} (format : Format P G F V) (good : V → Bool) (once : EndsOnce format good) (a x c y : List ℕ) → a ++ x ≡ c ++ y → IsWholeText format good a → IsWholeText format good c → x ≡ y
one_rest format good once a x c y is first second =
    append_cancel_left a x y (is ∙ ap (λ (l : List ℕ). l ++ y) (sym (one_first format good once a x c y is first second)))

-- ---- a text that goes on

-- a text without a fault, which is not whole, has no prefix that is
pub none_yet : {P G F V : Type 0} (format : Format P G F V) (good : V → Bool) (once : EndsOnce format good) (text : List ℕ) → IsUnfinished format good text → HasNoWhole format good text
none_yet format good once text goes_on front [] is whole = let not : good (verdict_on format text) ≡ false = goes_on.1 in let yes : good (verdict_on format text) ≡ true = subst (λ (l : List ℕ). IsWholeText format good l) (sym (is ∙ append-nil front)) whole in cc
none_yet format good once text goes_on front (byte ∷ more) is whole =
    let closed = whole_closes format good once front more byte whole in
    let met : fault_met format text ≡ Some closed.0 = ap (λ (l : List ℕ). fault_met format l) is ∙ closed.1 in
    let none : fault_met format text ≡ None = goes_on.0 in cc

-- ---- a text with a fault

-- neither has a longer text with a fault, whatever follows, if no prefix between the two is whole
none_later : {P G F V : Type 0} (format : Format P G F V) (good : V → Bool) (once : EndsOnce format good) (text taken more : List ℕ) (fault : F) → IsUnfinished format good text → fault_met format (text ++ taken) ≡ Some fault
    → ((d e : List ℕ) → taken ≡ d ++ e → IsWholeText format good (text ++ d) → ⊥) → HasNoWhole format good ((text ++ taken) ++ more)
none_later format good once text taken more fault goes_on met between front back is whole = go (two_firsts text (taken ++ more) front back whole_is)
  where
    whole_is : text ++ (taken ++ more) ≡ front ++ back
    whole_is = sym (append_assoc text taken more) ∙ is

    longer : (d : List ℕ) → front ≡ text ++ d → ((e : List ℕ) × (d ≡ taken ++ e)) ⊎ ((e : List ℕ) × (taken ≡ d ++ e)) → ⊥
    longer d front_is (inl e) =
        met_not_whole format good once (text ++ taken) e.0 fault met
        (subst (λ (l : List ℕ). IsWholeText format good l) (front_is ∙ ap (λ (l : List ℕ). text ++ l) e.1 ∙ sym (append_assoc text taken e.0)) whole)
    longer d front_is (inr e) = between d e.0 e.1 (subst (λ (l : List ℕ). IsWholeText format good l) front_is whole)

    go : ((d : List ℕ) × (front ≡ text ++ d)) ⊎ ((d : List ℕ) × (text ≡ front ++ d)) → ⊥
    go (inl d) =
        longer d.0 d.1
        (two_firsts taken more d.0 back (append_cancel_left text (taken ++ more) (d.0 ++ back) (whole_is ∙ ap (λ (l : List ℕ). l ++ back) d.1 ∙ append_assoc text d.0 back)))
    go (inr d) = none_yet format good once text goes_on front d.0 d.1 whole

-- ---- a byte that is fed

-- between a text and one further byte there is no prefix
no_whole_byte : {P G F V : Type 0} (format : Format P G F V) (good : V → Bool) (once : EndsOnce format good) (text d e : List ℕ) (byte : ℕ) (fault : F) → IsUnfinished format good text → fault_met format (text ++ byte ∷ []) ≡ Some fault
    → byte ∷ [] ≡ d ++ e → IsWholeText format good (text ++ d) → ⊥
no_whole_byte format good once text [] e byte fault goes_on met is whole = none_yet format good once text goes_on (text ++ []) [] (sym (append-nil (text ++ []) ∙ append-nil text)) whole
no_whole_byte format good once text (first ∷ d) e byte fault goes_on met is whole =
    let same : first ≡ byte = cc in
    met_not_whole format good once (text ++ byte ∷ []) d fault met
    (subst (λ (l : List ℕ). IsWholeText format good l) (ap (λ (n : ℕ). text ++ n ∷ d) same ∙ sym (append_assoc text (byte ∷ []) d)) whole)

-- a text that goes on has a fault at its next byte, whatever follows
pub byte_fault : {P G F V : Type 0} (format : Format P G F V) (good : V → Bool) (once : EndsOnce format good) (p : P) (given : List G) (text more : List ℕ) (byte : ℕ) (fault : F) → StandsAs format p given text → IsUnfinished format good text → MeetsFault format p (byte ∷ []) (Some fault)
    → HasNoWhole format good ((text ++ byte ∷ []) ++ more) × (verdict_on format ((text ++ byte ∷ []) ++ more) ≡ format.bad fault)
byte_fault format good once p given text more byte fault stands goes_on met =
    let here = met given text stands in (
      none_later format good once text (byte ∷ []) more fault goes_on here (λ d e is whole. no_whole_byte format good once text d e byte fault goes_on here is whole),
      fault_lasts format once.lasting (text ++ byte ∷ []) more fault here,
    )

-- ---- a piece that is fed

-- places where no text is whole that ends there, and from which a byte that ends no record leads to such a place again, or to a fault
pub record StaysOpen {P G F V : Type 0} (format : Format P G F V) (good : V → Bool) (IsOpen : P → Type 0) : Type 0 where
  pub never : (p : P) (given : List G) → IsOpen p → good (format.ended p given) ≡ true → ⊥
  pub goes : (p : P) (byte : ℕ) → IsOpen p → (format.step p byte).gave ≡ None → IsOpen (format.step p byte).next ⊎ ((fault : F) × (format.fault_in (format.step p byte).next ≡ Some fault))

-- nothing is given twice where nothing is given in all
none_first : {G : Type 0} (gave : Option G) (others : List G) → option_to_list gave ++ others ≡ [] → (gave ≡ None) × (others ≡ [])
none_first None others is = (refl, is)
none_first (Some g) others is = cc

-- from such a place on no text is whole that ends within bytes that end no record
none_within : {P G F V : Type 0} (format : Format P G F V) (good : V → Bool) (once : EndsOnce format good) (IsOpen : P → Type 0) (stays : StaysOpen format good IsOpen) (p : P) (given : List G) (text d e : List ℕ) → StandsAs format p given text → IsOpen p
    → (read_on format.step p (d ++ e)).given ≡ [] → IsWholeText format good (text ++ d) → ⊥
unfolding read_on
none_within format good once IsOpen stays p given text [] e stands here none whole =
    stays.never p given here (ap good (sym (verdict_here format p given text stands)) ∙ subst (λ (l : List ℕ). IsWholeText format good l) (append-nil text) whole)
none_within {P} {G} format good once IsOpen stays p given text (byte ∷ d) e stands here none whole =
    let q : P = (format.step p byte).next in
    let gave : List G = option_to_list (format.step p byte).gave in
    let parts = none_first (format.step p byte).gave (read_on format.step q (d ++ e)).given none in
    let on : StandsAs format q (given ++ gave) (text ++ byte ∷ []) = fed_step format p byte given text stands in
    let rest : IsWholeText format good ((text ++ byte ∷ []) ++ d) = subst (λ (l : List ℕ). IsWholeText format good l) (sym (append_assoc text (byte ∷ []) d)) whole in
    ⊎_elim (λ still. none_within format good once IsOpen stays q (given ++ gave) (text ++ byte ∷ []) d e on still parts.1 rest)
    (λ broken. met_not_whole format good once (text ++ byte ∷ []) d broken.0 (fault_here format q (given ++ gave) (text ++ byte ∷ []) on ∙ broken.1) rest)
    (stays.goes p byte here parts.0)

-- bytes for which nothing was given end no record
gave_none : {P G F V : Type 0} (format : Format P G F V) (p q : P) (given : List G) (text taken : List ℕ) → StandsAs format p given text → Feeds format p q taken [] → (read_on format.step p taken).given ≡ []
unfolding StandsAs
gave_none {P} {G} format p q given text taken stands feeds =
    append_cancel_left given (read_on format.step p taken).given []
    (ap (λ (r : Reading P G). r.given) (sym (read_more format p given text taken stands) ∙ feeds given text stands))

-- a text that goes on has a fault within a piece that ends no record, whatever follows
pub piece_fault : {P G F V : Type 0} (format : Format P G F V) (good : V → Bool) (once : EndsOnce format good) (IsOpen : P → Type 0) (stays : StaysOpen format good IsOpen) (p q : P) (given : List G) (text taken more : List ℕ) (fault : F) → StandsAs format p given text → IsOpen p → IsUnfinished format good text
    → Feeds format p q taken [] → MeetsFault format p taken (Some fault) → HasNoWhole format good ((text ++ taken) ++ more) × (verdict_on format ((text ++ taken) ++ more) ≡ format.bad fault)
piece_fault {P} {G} format good once IsOpen stays p q given text taken more fault stands here_open goes_on feeds met =
    let here = met given text stands in
    let none = gave_none format p q given text taken stands feeds in (
      none_later format good once text taken more fault goes_on here
          (λ d e is whole. none_within format good once IsOpen stays p given text d e stands here_open (ap (λ (l : List ℕ). (read_on format.step p l).given) (sym is) ∙ none) whole),
      fault_lasts format once.lasting (text ++ taken) more fault here,
    )

-- the same by the answer to the piece
pub answer_fault : {P G F V : Type 0} (format : Format P G F V) (good : V → Bool) (once : EndsOnce format good) (refused : F → Refusal) (IsOpen : P → Type 0) (stays : StaysOpen format good IsOpen) (p q : P) (given : List G) (text taken more : List ℕ) (answer : Result (Option G) (NotTaken F)) (fault : F) → answer ≡ Err (Fault fault) → StandsAs format p given text → IsOpen p → IsUnfinished format good text
    → Feeds format p q taken (given_in answer) → TellsFault format p taken answer → IsFaultyText format good refused ((text ++ taken) ++ more) (refused fault)
answer_fault {P} {G} {F} format good once refused IsOpen stays p q given text taken more answer fault is stands here_open goes_on feeds tells =
    let fed : Feeds format p q taken [] = subst (λ (a : Result (Option G) (NotTaken F)). Feeds format p q taken (given_in a)) is feeds in
    let met : MeetsFault format p taken (Some fault) = subst (λ (a : Result (Option G) (NotTaken F)). TellsFault format p taken a) is tells in
    let found = piece_fault format good once IsOpen stays p q given text taken more fault stands here_open goes_on fed met in
    (fault, refl, found.0, found.1)

-- ---- texts that end with the source

-- a format whose texts are not whole before the source is at its end
pub once_never : {P G F V : Type 0} (format : Format P G F V) → IsLasting format → EndsOnce format never
once_never format lasting = record { lasting = lasting; closes = λ p given byte whole. absurd (true≢false (sym whole)); bad = λ fault. refl }

pub none_ever : {P G F V : Type 0} (format : Format P G F V) (text : List ℕ) → HasNoWhole format never text
none_ever format text front back is whole = true≢false (sym whole)

-- such a text has the fault of its piece, whatever follows
pub fault_ever : {P G F V : Type 0} (format : Format P G F V) (refused : F → Refusal) (p : P) (given : List G) (text taken more : List ℕ) (answer : Result (Option G) (NotTaken F)) (fault : F) → answer ≡ Err (Fault fault) → StandsAs format p given text → TellsLasting format p taken answer
    → IsFaultyText format never refused ((text ++ taken) ++ more) (refused fault)
fault_ever {P} {G} {F} format refused p given text taken more answer fault is stands tells =
    let lasts = subst (λ (a : Result (Option G) (NotTaken F)). TellsLasting format p taken a) is tells in
    (fault, refl, none_ever format ((text ++ taken) ++ more), ap (λ (l : List ℕ). verdict_on format l) (append_assoc text taken more) ∙ lasts given text more stands)

-- ---- kinds of a format

-- what came before a text, and the fault of that text
pub record EndsFaulty {P G F V : Type 0} (format : Format P G F V) (good : V → Bool) (before all : List ℕ) (fault : F) : Type 0 where
  pub text : List ℕ
  pub whole : all ≡ before ++ text
  pub none : HasNoWhole format good text
  pub bad : verdict_on format text ≡ format.bad fault

-- a fault is that of a text of the format
pub ends_faulty : {P T R G F V : Type 0} (format : Format R G F V) (good : V → Bool) (refused : F → Refusal) (stands : P → List ℕ → Type 0) (gives : T → List ℕ → Type 0) (before all : List ℕ) (refusal : Refusal) → HasFaultBehind (format_kind format good refused stands gives) before all refusal
    → (fault : F) × (refusal ≡ refused fault) × EndsFaulty format good before all fault
ends_faulty format good refused stands gives before all refusal behind =
    let faulty = behind.faulty in
    (faulty.0, faulty.1, record { text = behind.rest; whole = behind.whole; none = faulty.2; bad = faulty.3 })
