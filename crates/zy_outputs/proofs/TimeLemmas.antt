-- What the times of a session show of its commands, and which marks come too early.
use Rattle.std.proofs.Common.{◌≡◌, ℕ, zero, suc, ◌+◌, ◌-◌, ◌<◌, ◌≤◌, Bool, true, false, List, [], ◌∷◌, length, take, map, Some, refl, ap, arith}
use Rattle.std.specs.List.{slice_get, slice_index_or}
use mathlib.Core.Logic.{dite}
use native.Mathlib.Decide.{dec_lt}
use Rattle.std.proofs.lemmas.Option.{slice_get_within}
use Rattle.zy_capture.specs.declared.record.Record.{Record}
use Rattle.zy_check.specs.Answered.{has_bytes}
use Rattle.zy_times.specs.First.{AreRises}
use Rattle.zy_times.specs.Sessions.{sent_in, marks_at, MarksFitIn}
use Rattle.zy_times.specs.Times.{trues, number_if}

-- ---- flags

trues_rise : (few many : ℕ) (flags : List Bool) → few ≤ many → trues (take few flags) ≤ trues (take many flags)
trues_rise zero many flags order = omega arith
trues_rise (suc few) zero flags order = absurd (omega arith)
trues_rise (suc few) (suc many) [] order = omega arith
trues_rise (suc few) (suc many) (true ∷ flags) order = let rest = trues_rise few many flags (omega arith) in omega (arith, rest)
trues_rise (suc few) (suc many) (false ∷ flags) order = trues_rise few many flags (omega arith)

trues_within : (count : ℕ) (flags : List Bool) → trues (take count flags) ≤ trues flags
trues_within zero flags = omega arith
trues_within (suc count) [] = omega arith
trues_within (suc count) (true ∷ flags) = let rest = trues_within count flags in omega (arith, rest)
trues_within (suc count) (false ∷ flags) = trues_within count flags

one_flag : (text : List ℕ) (flag : Bool) → (flag ≡ false → text ≡ []) → trues (has_bytes text ∷ []) ≤ number_if flag
one_flag [] flag none = omega arith
one_flag (byte ∷ bytes) true none = omega arith
one_flag (byte ∷ bytes) false none = absurd (let e = none refl in cc)

-- one more command, which has no byte if its flag is false
pub flags_more : (texts : List (List ℕ)) (index : ℕ) (flag : Bool) → (flag ≡ false → slice_index_or texts index [] ≡ [])
    → trues (take (suc index) (map has_bytes texts)) ≤ trues (take index (map has_bytes texts)) + number_if flag
flags_more [] zero flag none = omega arith
flags_more [] (suc index) flag none = omega arith
flags_more (text ∷ texts) zero flag none = let one = one_flag text flag none in first text one
  where
    first : (text : List ℕ) → trues (has_bytes text ∷ []) ≤ number_if flag → trues (take 1 (map has_bytes (text ∷ texts))) ≤ 0 + number_if flag
    first [] one = omega arith
    first (byte ∷ bytes) one = omega (arith, one)
flags_more ([] ∷ texts) (suc index) flag none = flags_more texts index flag none
flags_more ((byte ∷ bytes) ∷ texts) (suc index) flag none = let rest = flags_more texts index flag none in omega (arith, rest)

-- ---- moments

module _ (records : List Record) (conn session : ℕ) (sent marks : List ℕ) (are_sent : AreRises (sent_in records conn session) (length records) sent) (are_marks : AreRises (marks_at records conn session) (length records) marks) where
  -- a command is not sent before its moment
  pub not_sent_before : (index own moment : ℕ) → slice_get sent index ≡ Some own → index < sent_in records conn session moment → own ≤ moment
  not_sent_before index own moment is come = dite (dec_lt moment own)
      (λ early. let first = (are_sent.each index own is).1.first moment early in absurd (omega (arith, first, come)))
      (λ late. omega (arith, late))

  -- at the moment of a mark more marks had come than before it
  pub mark_above : (before m : ℕ) → slice_get marks before ≡ Some m → before < marks_at records conn session m
  mark_above before m is = (are_marks.each before m is).1.above

  none_first : (m : ℕ) → m ≡ 0 → marks_at records conn session m ≡ 0
  none_first m none = ap (marks_at records conn session) none

  -- a mark comes with the last record before its moment
  pub mark_rises : (before m : ℕ) → slice_get marks before ≡ Some m → (0 < m) × (marks_at records conn session (m - 1) < marks_at records conn session m)
  mark_rises before m is =
      let above = mark_above before m is in
      let some : 0 < m = dite (dec_lt 0 m) (λ some. some) (λ none. let z = none_first m (omega (arith, none)) in absurd (omega (arith, above, z))) in
      let few = (are_marks.each before m is).1.first (m - 1) (omega (arith, some)) in
      (some, omega (arith, few, above))

  -- all marks had come in the end
  pub mark_in_end : (before m : ℕ) → slice_get marks before ≡ Some m → before < marks_at records conn session (length records)
  mark_in_end before m is =
      let within = slice_get_within marks before m is in
      let size = are_marks.size in
      omega (arith, within, size)

  -- a mark that came before its command was sent does not fit
  pub early_never : (flags : List Bool) (index before own m : ℕ) → trues (take index flags) ≤ before → slice_get sent index ≡ Some own → slice_get marks before ≡ Some m → m < own
      → MarksFitIn records conn session flags m → ⊥
  early_never flags index before own m few is_own is_mark early fit =
      let above = mark_above before m is_mark in
      let unsent = (are_sent.each index own is_own).1.first m early in
      let rise = trues_rise (sent_in records conn session m) index flags unsent in
      omega (arith, few, above, rise, fit)

  -- a mark after those of all answered commands does not fit
  pub last_never : (flags : List Bool) (before m : ℕ) → trues flags ≤ before → slice_get marks before ≡ Some m → MarksFitIn records conn session flags m → ⊥
  last_never flags before m few is fit =
      let above = mark_above before m is in
      let within = trues_within (sent_in records conn session m) flags in
      omega (arith, few, above, within, fit)
