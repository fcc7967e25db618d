-- When the marks of a session fit, and which commands they end.
use Rattle.std.specs.List.{slice_get}
use Rattle.std.proofs.Common.{◌≡◌, ℕ, zero, suc, ◌+◌, ◌-◌, ◌<◌, ◌≤◌, Bool, true, false, List, [], ◌∷◌, length, take, drop, IfSome, Option, Some, refl, sym, ap, ◌∙◌, subst, arith}
use mathlib.Core.Logic.{dite}
use native.Mathlib.Decide.{dec_lt}
use Rattle.std.proofs.lemmas.List.{take_all}
use Rattle.std.proofs.lemmas.Option.{slice_get_within}
use Rattle.zy_capture.specs.declared.record.Record.{Record}
use Rattle.zy_check.proofs.ListLemmas.{there}
use Rattle.zy_times.specs.First.{AreRises}
use Rattle.zy_times.specs.Sessions.{sent_in, marks_at, MarksFitIn}
use Rattle.zy_times.specs.Times.{marks_in, trues, number_if}
use Rattle.zy_verdict.specs.Numbers.{ended_among}
use Rattle.zy_verdict.proofs.MomentLemmas.{sent_rises, marks_later}

-- ---- flags

trues_rise : (few many : ℕ) (flags : List Bool) → few ≤ many → trues (take few flags) ≤ trues (take many flags)
trues_rise zero many flags order = omega arith
trues_rise (suc few) zero flags order = absurd (omega arith)
trues_rise (suc few) (suc many) [] order = omega arith
trues_rise (suc few) (suc many) (true ∷ flags) order = let rest = trues_rise few many flags (omega arith) in omega (arith, rest)
trues_rise (suc few) (suc many) (false ∷ flags) order = trues_rise few many flags (omega arith)

pub trues_one : (flags : List Bool) (at : ℕ) (flag : Bool) → slice_get flags at ≡ Some flag → trues (take (at + 1) flags) ≡ trues (take at flags) + number_if flag
trues_one [] at flag is = absurd (cc)
trues_one (true ∷ flags) zero flag is = let same : true ≡ flag = cc in subst (λ (f : Bool). 1 ≡ 0 + number_if f) same refl
trues_one (false ∷ flags) zero flag is = let same : false ≡ flag = cc in subst (λ (f : Bool). 0 ≡ 0 + number_if f) same refl
trues_one (true ∷ flags) (suc at) flag is =
    let rest = trues_one flags at flag is in
    let on : suc at + 1 ≡ suc (at + 1) = omega arith in
    let step = ap (λ (n : ℕ). trues (take n (true ∷ flags))) on in
    omega (arith, rest, step)
trues_one (false ∷ flags) (suc at) flag is =
    let on : suc at + 1 ≡ suc (at + 1) = omega arith in
    ap (λ (n : ℕ). trues (take n (false ∷ flags))) on ∙ trues_one flags at flag is

-- the flag that is true after this number of others
record IsNth (flags : List Bool) (number : ℕ) : Type 0 where
  at : ℕ
  is : slice_get flags at ≡ Some true
  before : trues (take at flags) ≡ number

nth_true : (flags : List Bool) (number : ℕ) → number < trues flags → IsNth flags number
nth_true [] number few = absurd (omega arith)
nth_true (true ∷ flags) zero few = record { at = 0; is = refl; before = refl }
nth_true (true ∷ flags) (suc number) few =
    let rest = nth_true flags number (omega arith) in
    let before = rest.before in
    record { at = suc rest.at; is = rest.is; before = ap suc before }
nth_true (false ∷ flags) number few = let rest = nth_true flags number few in record { at = suc rest.at; is = rest.is; before = rest.before }

-- ---- marks

-- each answered command before an index was sent when the mark that ends it came
abbrev pub AreMatched : List ℕ → List ℕ → List Bool → ℕ → Type 0
AreMatched sent marks answered index = (a s m : ℕ) → a < index → slice_get answered a ≡ Some true → slice_get sent a ≡ Some s
    → slice_get marks (trues (take a answered)) ≡ Some m → s ≤ m

module _ (records : List Record) (conn session : ℕ) (sent marks : List ℕ) (answered : List Bool)
    (are_sent : AreRises (sent_in records conn session) (length records) sent) (are_marks : AreRises (marks_at records conn session) (length records) marks) where
  -- no more marks come than there are
  marks_few : (moment : ℕ) → marks_at records conn session moment ≤ length marks
  marks_few moment =
      let size = are_marks.size in
      dite (dec_lt (length records) moment)
      (λ past.
      let whole : marks_at records conn session moment ≡ marks_at records conn session (length records) =
      ap (λ (rs : List Record). marks_in rs conn session) (take_all moment records (omega (arith, past)) ∙ sym (take_all (length records) records (omega arith))) in
      omega (arith, size, whole))
      (λ within. let more = marks_later records conn session moment (length records) (omega (arith, within)) in omega (arith, size, more))

  -- a mark that had come at a moment is not later than it
  mark_come : (number moment m : ℕ) → slice_get marks number ≡ Some m → number < marks_at records conn session moment → m ≤ moment
  mark_come number moment m is come = dite (dec_lt moment m)
      (λ early. let first = (are_marks.each number m is).1.first moment early in absurd (omega (arith, first, come)))
      (λ late. omega (arith, late))

  pub fits : length answered ≤ length sent → AreMatched sent marks answered (length answered) → length marks ≤ trues answered → (moment : ℕ) → MarksFitIn records conn session answered moment
  fits size matched enough moment = by_count (marks_at records conn session moment) refl
    where
      by_count : (count : ℕ) → marks_at records conn session moment ≡ count → count ≤ trues (take (sent_in records conn session moment) answered)
      by_count zero is = omega arith
      by_count (suc number) is =
          let few = marks_few moment in
          let mark = there marks number (omega (arith, few, is)) in
          let nth = nth_true answered number (omega (arith, few, is, enough)) in
          let within = slice_get_within answered nth.at true nth.is in
          let own = there sent nth.at (omega (arith, within, size)) in
          let early = matched nth.at own.0 mark.0 within nth.is own.1 (ap (slice_get marks) nth.before ∙ mark.1) in
          let come = mark_come number moment mark.0 mark.1 (omega (arith, is)) in
          let above = (are_sent.each nth.at own.0 own.1).1.above in
          let more = sent_rises records conn session own.0 moment (omega (arith, early, come)) in
          let one = trues_one answered nth.at true nth.is in
          let rise = trues_rise (nth.at + 1) (sent_in records conn session moment) answered (omega (arith, above, more)) in
          let before = nth.before in
          omega (arith, one, rise, before)

-- ---- ends

pub not_ended : (records : List Record) (conn session : ℕ) (marks : List ℕ) (before moment : ℕ) → AreRises (marks_at records conn session) (length records) marks → moment ≤ length records
    → ((m : ℕ) → slice_get marks before ≡ Some m → moment < m) → before < marks_at records conn session moment → ⊥
not_ended records conn session marks before moment are within unended ended =
    let size = are.size in
    let more = marks_later records conn session moment (length records) within in
    let mark = there marks before (omega (arith, size, more, ended)) in
    let first = (are.each before mark.0 mark.1).1.first moment (unended mark.0 mark.1) in
    omega (arith, first, ended)

-- ---- numbers

pub no_flags : (left : ℕ) → ended_among left [] ≡ 0
no_flags zero = refl
no_flags (suc left) = refl

-- one more command is ended while marks are left
pub ended_one : (flags : List Bool) (at : ℕ) (flag : Bool) (left : ℕ) → slice_get flags at ≡ Some flag → 1 ≤ left
    → ended_among left (drop at flags) ≡ suc (ended_among (left - number_if flag) (drop (at + 1) flags))
ended_one [] at flag left is some = absurd (cc)
ended_one (own ∷ flags) at flag zero is some = absurd (omega arith)
ended_one (true ∷ flags) zero flag (suc left) is some =
    let same : true ≡ flag = cc in
    let less : left ≡ suc left - 1 = omega arith in
    subst (λ (f : Bool). ended_among (suc left) (true ∷ flags) ≡ suc (ended_among (suc left - number_if f) flags)) same (ap (λ (n : ℕ). suc (ended_among n flags)) less)
ended_one (false ∷ flags) zero flag (suc left) is some =
    let same : false ≡ flag = cc in
    let all : suc left ≡ suc left - 0 = omega arith in
    subst (λ (f : Bool). ended_among (suc left) (false ∷ flags) ≡ suc (ended_among (suc left - number_if f) flags)) same (ap (λ (n : ℕ). suc (ended_among n flags)) all)
ended_one (own ∷ flags) (suc at) flag (suc left) is some =
    let on : suc (at + 1) ≡ suc at + 1 = omega arith in
    ended_one flags at flag (suc left) is some ∙ ap (λ (n : ℕ). suc (ended_among (suc left - number_if flag) (drop n (own ∷ flags)))) on

-- one more command is matched
pub matched_more : (sent marks : List ℕ) (answered : List Bool) (at : ℕ) → AreMatched sent marks answered at
    → ((s m : ℕ) → slice_get answered at ≡ Some true → slice_get sent at ≡ Some s → slice_get marks (trues (take at answered)) ≡ Some m → s ≤ m)
    → AreMatched sent marks answered (at + 1)
matched_more sent marks answered at matched one a s m below is own mark = dite (dec_lt a at)
    (λ before. matched a s m before is own mark)
    (λ last.
    let same : a ≡ at = omega (arith, below, last) in
    one s m (subst (λ (k : ℕ). slice_get answered k ≡ Some true) same is) (subst (λ (k : ℕ). slice_get sent k ≡ Some s) same own) (subst (λ (k : ℕ). slice_get marks (trues (take k answered)) ≡ Some m) same mark))

-- a mark that is found, or none
pub unended_by : (records : List Record) (conn session : ℕ) (marks : List ℕ) (before moment : ℕ) (mark : Option ℕ) → mark ≡ slice_get marks before → IfSome mark (λ m. moment < m)
    → AreRises (marks_at records conn session) (length records) marks → moment ≤ length records → before < marks_at records conn session moment → ⊥
unended_by records conn session marks before moment mark is early are within ended =
    not_ended records conn session marks before moment are within (λ m found. subst (λ (k : Option ℕ). IfSome k (λ n. moment < n)) (is ∙ found) early) ended

-- a command that is matched, if it is answered
pub matched_one : (sent marks : List ℕ) (answered : List Bool) (at : ℕ) (flag : Bool) (own : ℕ) (mark : Option ℕ) → slice_get answered at ≡ Some flag → slice_get sent at ≡ Some own
    → mark ≡ slice_get marks (trues (take at answered)) → (flag ≡ true → IfSome mark (λ m. own ≤ m))
    → (s m : ℕ) → slice_get answered at ≡ Some true → slice_get sent at ≡ Some s → slice_get marks (trues (take at answered)) ≡ Some m → s ≤ m
matched_one sent marks answered at flag own mark is is_own is_mark matched s m true_there now found =
    let both : Some flag ≡ Some true = sym is ∙ true_there in
    let same : flag ≡ true = cc in
    let pair : Some own ≡ Some s = sym is_own ∙ now in
    let one : own ≡ s = cc in
    let bound = subst (λ (k : Option ℕ). IfSome k (λ n. own ≤ n)) (is_mark ∙ found) (matched same) in
    omega (arith, bound, one)
