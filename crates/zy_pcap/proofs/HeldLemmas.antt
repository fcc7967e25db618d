-- Bytes that are kept in a row and in runs: what is there after some were added, and which of them are the stream.
use Rattle.std.proofs.Common.{◌≡◌, ℕ, zero, suc, ◌+◌, ◌-◌, ◌<◌, ◌≤◌, List, [], ◌∷◌, ◌++◌, length, drop, get_or, refl, sym, ap, ◌∙◌, subst, inl, inr, true≢false, arith}
use Rattle.std.specs.Prelude.{Option, Some, None, IsSome, IfSome, ◌↔◌, true, false, slice_get}
use Rattle.std.specs.List.{AllByRecursion}
use Rattle.std.proofs.lemmas.Bool.{cases_lt}
use Rattle.std.proofs.lemmas.List.{get_or-drop, get_or_append_left, get_or-append_right, length-append, length-drop}
use Rattle.zy_pcap.specs.Session.{byte_or_other, longest_from, longest}
use Rattle.std.specs.BTreeMap.{insert_entry}
use Rattle.std.specs.Ordering.{nat_cmp}
use Rattle.zy_pcap.specs.declared.held.HeldBytes.{HeldBytes}
use Rattle.zy_pcap.specs.Held.{Run, Rise, covered, runs_at, byte_in, byte_held, parts, row_limit, IsWholeRow, IsWhole, IsOver, woven_at, has_run, HoldsSame, HoldsBoth, AreThere, AreAll}
use Rattle.zy_pcap.proofs.CoverLemmas.{covered_in, covered_above, covered_below, first_none, first_assoc, both_none}
use Rattle.zy_pcap.proofs.WeaveLemmas.{all_at, all_long}
use Rattle.zy_pcap.proofs.InsertLemmas.{between, between_at, had_already, put_among}

-- ---- the row

in_row : (front : List ℕ) (runs : List Run) (at : ℕ) → at < length front → byte_in front runs at ≡ Some (get_or front at 0)
in_row front runs at within =
    let place : at - 0 ≡ at = omega arith in
    rw (covered_in front 0 at (omega arith) (omega (arith, within))) (ap (λ (i : ℕ). Some (get_or front i 0)) place)

past_row : (front : List ℕ) (runs : List Run) (at : ℕ) → length front ≤ at → byte_in front runs at ≡ runs_at runs at
past_row front runs at above = rw (covered_above front 0 at (omega (arith, above))) refl

-- ---- bytes that are added

-- the row has all of them
pub held_all : (front bytes : List ℕ) (runs : List Run) (from : ℕ) → from + length bytes ≤ length front → HoldsBoth (byte_in front runs) (byte_in front runs) (covered bytes from)
held_all front bytes runs from within at =
    elim (cases_lt at (length front)) [
      | inl row ↦ rw (in_row front runs at row) refl
      | inr out ↦ rw (covered_above bytes from at (omega (arith, out, within))) (sym (first_none (byte_in front runs at)))
    ]

-- those that come after the row are the bytes from its end on
rest_covered : (bytes : List ℕ) (from have at : ℕ) → from ≤ have → have < from + length bytes → have ≤ at → covered (drop (have - from) bytes) have at ≡ covered bytes from at
rest_covered bytes from have at next some out =
    let size : length (drop (have - from) bytes) ≡ length bytes - (have - from) = length-drop (have - from) bytes in
    elim (cases_lt at (from + length bytes)) [
      | inl within ↦ (let place : have - from + (at - have) ≡ at - from = omega (arith, next, out) in
          covered_in (drop (have - from) bytes) have at out (omega (arith, size, next, some, within))
          ∙ ap (λ (b : ℕ). Some b) (get_or-drop (have - from) bytes (at - have) 0 ∙ ap (λ (i : ℕ). get_or bytes i 0) place)
          ∙ sym (covered_in bytes from at (omega (arith, next, out)) within))
      | inr above ↦ covered_above (drop (have - from) bytes) have at (omega (arith, size, next, above)) ∙ sym (covered_above bytes from at above)
    ]

-- all that is there comes to the row, up to its limit
module _ (front bytes next : List ℕ) (runs : List Run) (from : ℕ) (begins : from ≤ length front) (some : length front < from + length bytes) (fits : from + length bytes ≤ row_limit)
    (all : AreAll (woven_at runs (drop (length front - from) bytes) (length front)) (length front) row_limit next) where
  abbrev coming : List ℕ
  coming = drop (length front - from) bytes

  size : length (front ++ next) ≡ length front + length next
  size = length-append front next

  size_more : length coming ≡ length bytes - (length front - from)
  size_more = length-drop (length front - from) bytes

  long : length coming ≤ length next
  long = all_long runs coming next (length front) row_limit (omega (arith, size_more, begins, some, fits)) all

  pub row_grows : HoldsBoth (byte_in front runs) (byte_in (front ++ next) runs) (covered bytes from)
  row_grows at =
      elim (cases_lt at (length front)) [
        | inl row ↦ in_row (front ++ next) runs at (omega (arith, size, row)) ∙ ap (λ (b : ℕ). Some b) (get_or_append_left front next 0 at row) ∙ rw (in_row front runs at row) refl
        | inr out ↦ elim (cases_lt at (length front + length next)) [
          | inl within ↦ in_row (front ++ next) runs at (omega (arith, size, within))
              ∙ ap (λ (b : ℕ). Some b) (get_or-append_right front next (length front) at 0 refl out)
              ∙ sym (covered_in next (length front) at out within)
              ∙ sym (all_at (woven_at runs coming (length front)) (length front) row_limit at next all out within)
              ∙ rw (past_row front runs at out) (ap (byte_or_other (runs_at runs at)) (rest_covered bytes from (length front) at begins some out))
          | inr above ↦ past_row (front ++ next) runs at (omega (arith, size, above))
              ∙ rw (past_row front runs at out, covered_above bytes from at (omega (arith, above, long, size_more, begins, some))) (sym (first_none (runs_at runs at)))
        ]
      ]

  pub row_whole : IsWholeRow (front ++ next) runs
  row_whole = (
    omega (arith, size, all.within),
    λ low. ap (runs_at runs) size ∙ (both_none (runs_at runs (length front + length next)) (covered coming (length front) (length front + length next)) (all.ends (omega (arith, size, low)))).0,
  )

-- bytes that come next where there are no runs
pub alone_all : (bytes : List ℕ) (from limit : ℕ) → from + length bytes ≤ limit → AreAll (woven_at [] bytes from) from limit bytes
alone_all bytes from limit fits = record {
  there = λ d low. (let place : from + d - from ≡ d = omega arith in covered_in bytes from (from + d) (omega arith) (omega (arith, low)) ∙ ap (λ (i : ℕ). Some (get_or bytes i 0)) place);
  within = fits;
  ends = λ low. covered_above bytes from (from + length bytes) (omega arith);
}

-- runs that begin before the limit are all that count there
pub between_all_at : (runs : List Run) (bytes next : List ℕ) (from limit : ℕ) → AreAll (woven_at (between 0 limit runs) bytes from) from limit next → AllByRecursion (λ (run : Run). 0 ≤ run.0) runs → AreAll (woven_at runs bytes from) from limit next
between_all_at runs bytes next from limit all any =
    let same = λ (at : ℕ) (low : at < limit). ap (λ (b : Option ℕ). byte_or_other b (covered bytes from at)) (between_at 0 limit at runs any low) in
    record {
      there = λ d low. sym (same (from + d) (omega (arith, low, all.within))) ∙ all.there d low;
      within = all.within;
      ends = λ low. sym (same (from + length next) low) ∙ all.ends low;
    }

pub any_begin : (runs : List Run) → AllByRecursion (λ (run : Run). 0 ≤ run.0) runs
any_begin [] = tt
any_begin (run ∷ runs) = (omega arith, any_begin runs)

-- bytes that come after a gap
pub apart_added : (front bytes : List ℕ) (old new : List Run) (from : ℕ) → ((at : ℕ) → runs_at new at ≡ woven_at old bytes from at) → HoldsBoth (byte_in front old) (byte_in front new) (covered bytes from)
apart_added front bytes old new from both at =
    ap (byte_or_other (covered front 0 at)) (both at) ∙ sym (first_assoc (covered front 0 at) (runs_at old at) (covered bytes from at))

pub apart_whole : (front bytes : List ℕ) (old new : List Run) (from : ℕ) → length front < from → ((at : ℕ) → runs_at new at ≡ woven_at old bytes from at) → IsWholeRow front old → IsWholeRow front new
apart_whole front bytes old new from gap both whole =
    (whole.0, λ low. both (length front) ∙ rw (whole.1 low) (covered_below bytes from (length front) gap))

-- ---- runs that the row has come to

pub over_same : (front : List ℕ) (run : Run) (runs : List Run) → run.0 + length run.1 ≤ length front → HoldsSame (byte_in front (run ∷ runs)) (byte_in front runs)
over_same front run runs over at =
    elim (cases_lt at (length front)) [
      | inl row ↦ in_row front runs at row ∙ sym (in_row front (run ∷ runs) at row)
      | inr out ↦ past_row front runs at out ∙ sym (past_row front (run ∷ runs) at out ∙ rw (covered_above run.1 run.0 at (omega (arith, over, out))) refl)
    ]

pub same_whole : (front : List ℕ) (old new : List Run) → HoldsSame (byte_in front old) (byte_in front new) → IsWholeRow front old → IsWholeRow front new
same_whole front old new same whole =
    (whole.0, λ low. sym (past_row front new (length front) (omega arith)) ∙ same (length front) ∙ past_row front old (length front) (omega arith) ∙ whole.1 low)

-- ---- the stream

stream_on : (byte : ℕ → Option ℕ) (at count b : ℕ) → byte at ≡ Some b → longest_from byte at (suc count) ≡ b ∷ longest_from byte (at + 1) count
stream_on byte at count b is = rw (is, longest_from) refl

stream_over : (byte : ℕ → Option ℕ) (at count : ℕ) → byte at ≡ None → longest_from byte at count ≡ []
stream_over byte at zero none = refl
stream_over byte at (suc count) none = rw (none, longest_from) refl

stream_from : (byte : ℕ → Option ℕ) (at count : ℕ) (bytes : List ℕ) → length bytes ≤ count → AreThere byte at bytes → (length bytes < count → byte (at + length bytes) ≡ None) → longest_from byte at count ≡ bytes
stream_from byte at count [] few there ends = first count ends
  where
    first : (n : ℕ) → (0 < n → byte (at + 0) ≡ None) → longest_from byte at n ≡ []
    first zero none = refl
    first (suc n) none = stream_over byte at (suc n) (let place : at ≡ at + 0 = omega arith in ap byte place ∙ none (omega arith))
stream_from byte at zero (b ∷ bytes) few there ends = absurd (omega (arith, few))
stream_from byte at (suc count) (b ∷ bytes) few there ends =
    let here : at ≡ at + 0 = omega arith in
    stream_on byte at count b (ap byte here ∙ there 0 (omega arith))
    ∙ ap (λ (l : List ℕ). b ∷ l) (stream_from byte (at + 1) count bytes (omega (arith, few))
    (λ d low. (let place : at + 1 + d ≡ at + suc d = omega arith in ap byte place ∙ there (suc d) (omega (arith, low))))
    (λ low. (let place : at + 1 + length bytes ≡ at + suc (length bytes) = omega arith in ap byte place ∙ ends (omega (arith, low)))))

-- a whole row is the stream
pub stream_is : (front : List ℕ) (runs : List Run) → IsWholeRow front runs → longest (byte_in front runs) ≡ front
unfolding longest
stream_is front runs whole =
    let place : (d : ℕ) → 0 + d ≡ d = λ d. omega arith in
    stream_from (byte_in front runs) 0 row_limit front whole.0 (λ d low. ap (byte_in front runs) (place d) ∙ in_row front runs d low)
    (λ low. ap (byte_in front runs) (place (length front)) ∙ past_row front runs (length front) (omega arith) ∙ whole.1 low)

-- ---- what is kept, after each call

-- the row has all of them
pub held_already : (held : HeldBytes) (bytes : List ℕ) (from : ℕ) → from + length bytes ≤ length held.front.items → HoldsBoth (byte_held (parts held)) (byte_held (parts held)) (covered bytes from)
unfolding byte_held
held_already held bytes from within = held_all held.front.items bytes held.runs.entries from within

-- all that comes next came to the row
pub held_grown : (old new : HeldBytes) (bytes more next : List ℕ) (from : ℕ) → from ≤ length old.front.items → length old.front.items < from + length bytes → from + length bytes ≤ row_limit → more ≡ drop (length old.front.items - from) bytes
    → AreAll (woven_at old.runs.entries more (length old.front.items)) (length old.front.items) row_limit next → new.front.items ≡ old.front.items ++ next → new.runs.entries ≡ old.runs.entries
    → HoldsBoth (byte_held (parts old)) (byte_held (parts new)) (covered bytes from) × IsWhole new
unfolding byte_held
held_grown old new bytes more next from begins some fits is all grew same =
    let whole = subst (λ (l : List ℕ). AreAll (woven_at old.runs.entries l (length old.front.items)) (length old.front.items) row_limit next) is all in (
      rw (grew, same) (row_grows old.front.items bytes next old.runs.entries from begins some fits whole),
      rw (grew, same) (row_whole old.front.items bytes next old.runs.entries from begins some fits whole),
    )

-- the same where there are no runs
pub held_alone : (old new : HeldBytes) (bytes more : List ℕ) (from : ℕ) → from ≤ length old.front.items → length old.front.items < from + length bytes → from + length bytes ≤ row_limit → more ≡ drop (length old.front.items - from) bytes
    → old.runs.entries ≡ [] → new.front.items ≡ old.front.items ++ more → new.runs.entries ≡ old.runs.entries → HoldsBoth (byte_held (parts old)) (byte_held (parts new)) (covered bytes from) × IsWhole new
held_alone old new bytes more from begins some fits is alone grew same =
    let size : length more ≡ length bytes - (length old.front.items - from) = ap length is ∙ length-drop (length old.front.items - from) bytes in
    held_grown old new bytes more more from begins some fits is
    (subst (λ (l : List Run). AreAll (woven_at l more (length old.front.items)) (length old.front.items) row_limit more) (sym alone) (alone_all more (length old.front.items) row_limit (omega (arith, size, begins, some, fits)))) grew same

-- the same where there are runs, all of which that begin before the limit were asked
pub held_next : (old new : HeldBytes) (runs : List Run) (bytes more next : List ℕ) (from have : ℕ) → have ≡ length old.front.items → from ≤ length old.front.items → length old.front.items < from + length bytes → from + length bytes ≤ row_limit
    → runs ≡ between 0 row_limit old.runs.entries → more ≡ drop (have - from) bytes → AreAll (woven_at runs more have) have row_limit next → new.front.items ≡ old.front.items ++ next → new.runs.entries ≡ old.runs.entries
    → HoldsBoth (byte_held (parts old)) (byte_held (parts new)) (covered bytes from) × IsWhole new
held_next old new runs bytes more next from have size begins some fits are is all grew same =
    let here = subst (λ (n : ℕ). AreAll (woven_at (between 0 row_limit old.runs.entries) more n) n row_limit next) size (subst (λ (l : List Run). AreAll (woven_at l more have) have row_limit next) are all) in
    held_grown old new bytes more next from begins some fits (is ∙ ap (λ (n : ℕ). drop (n - from) bytes) size) (between_all_at old.runs.entries more next (length old.front.items) row_limit here (any_begin old.runs.entries)) grew same

-- a run has all bytes that come
pub held_long : (held : HeldBytes) (bytes : List ℕ) (from : ℕ) → has_run held.runs.entries from (length bytes) ≡ true → HoldsBoth (byte_held (parts held)) (byte_held (parts held)) (covered bytes from)
unfolding byte_held
held_long held bytes from has =
    apart_added held.front.items bytes held.runs.entries held.runs.entries from (λ at. had_already held.runs.entries bytes from at has)

-- a run of the bytes that come was put among the others
pub held_apart : (old new : HeldBytes) (runs : List Run) (bytes run : List ℕ) (from end : ℕ) → length old.front.items < from → IsWhole old → Rise old.runs.entries → has_run old.runs.entries from (length bytes) ≡ false → end ≡ from + length bytes
    → runs ≡ between from end old.runs.entries → AreAll (woven_at runs bytes from) from end run → new.runs.entries ≡ insert_entry nat_cmp old.runs.entries from run → new.front.items ≡ old.front.items
    → HoldsBoth (byte_held (parts old)) (byte_held (parts new)) (covered bytes from) × IsWhole new
unfolding byte_held
held_apart old new runs bytes run from end gap whole rise short is are all put same =
    let here = subst (λ (l : List Run). AreAll (woven_at l bytes from) from end run) are all in
    let both : (at : ℕ) → runs_at new.runs.entries at ≡ woven_at old.runs.entries bytes from at = λ at. ap (λ (l : List Run). runs_at l at) put ∙ put_among old.runs.entries bytes run from end at rise short is here in (
      rw same (apart_added old.front.items bytes old.runs.entries new.runs.entries from both),
      rw same (apart_whole old.front.items bytes old.runs.entries new.runs.entries from gap both whole),
    )

-- nothing was changed
pub held_same : (old new : HeldBytes) → new.front.items ≡ old.front.items → new.runs.entries ≡ old.runs.entries → HoldsSame (byte_held (parts old)) (byte_held (parts new))
unfolding byte_held
held_same old new front runs at = rw (front, runs) refl

not_empty : (runs : List Run) (run : Run) → slice_get runs 0 ≡ Some run → 0 < length runs
not_empty [] run is = cc
not_empty (first ∷ runs) run is = omega arith

first_is : (all runs : List Run) (run first : Run) → all ≡ run ∷ runs → slice_get all 0 ≡ Some first → run ≡ first
first_is all runs run first is there = (let here : slice_get (run ∷ runs) 0 ≡ Some first = subst (λ (l : List Run). slice_get l 0 ≡ Some first) is there in cc)

-- a run went to whose end the row had come
pub held_over : (old new : HeldBytes) (run : Run) → old.runs.entries ≡ run ∷ new.runs.entries → new.front ≡ old.front → run.0 + length run.1 ≤ length old.front.items → HoldsSame (byte_held (parts old)) (byte_held (parts new))
unfolding byte_held
held_over old new run is same over at =
    rw (same, is) (over_same old.front.items run new.runs.entries over at)

-- the first run was taken out, to whose end the row had come
pub held_popped : (old new : HeldBytes) (popped : Option Run) → IsOver old → (IsSome popped ↔ (0 < length old.runs.entries)) → IfSome popped (λ run. old.runs.entries ≡ run ∷ new.runs.entries) → new.front ≡ old.front → HoldsSame (byte_held (parts old)) (byte_held (parts new))
held_popped old new None over some removed same = absurd (true≢false (sym (some.1 (not_empty old.runs.entries over.0 over.1.0))))
held_popped old new (Some run) over some removed same =
    let first : run ≡ over.0 = first_is old.runs.entries new.runs.entries run over.0 removed over.1.0 in
    held_over old new run removed same (rw first over.1.1)

-- a row that was whole is so where all bytes are the same
pub still_whole : (old new : HeldBytes) → new.front ≡ old.front → HoldsSame (byte_held (parts old)) (byte_held (parts new)) → IsWhole old → IsWhole new
unfolding byte_held
still_whole old new front same whole =
    let row : new.front.items ≡ old.front.items = ap (λ f. f.items) front in
    rw row (same_whole old.front.items old.runs.entries new.runs.entries (λ at. sym (ap (λ (l : List ℕ). byte_in l new.runs.entries at) row) ∙ same at) whole)

-- more bytes, and then the same
pub both_same : (old now new : ℕ → Option ℕ) (more : ℕ → Option ℕ) → HoldsBoth old now more → HoldsSame now new → HoldsBoth old new more
both_same old now new more both same at = same at ∙ both at

-- the row is the stream
pub held_stream : (held : HeldBytes) → IsWhole held → longest (byte_held (parts held)) ≡ held.front.items
unfolding byte_held
held_stream held whole = stream_is held.front.items held.runs.entries whole
