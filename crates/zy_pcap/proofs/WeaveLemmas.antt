-- Bytes that come between runs: a row of what is there, run after run.
use Rattle.std.proofs.Common.{◌≡◌, ℕ, ◌+◌, ◌-◌, ◌<◌, ◌≤◌, List, [], ◌∷◌, ◌++◌, length, drop, get_or, refl, sym, ap, ◌∙◌, subst, inl, inr, arith}
use Rattle.std.specs.Prelude.{Option, Some, None, min}
use Rattle.std.specs.List.{AllByRecursion}
use Rattle.std.proofs.lemmas.Bool.{cases_lt}
use Rattle.std.proofs.lemmas.List.{get_or-take, get_or-drop, get_or_append_left, get_or-append_right, length-append, length-take, length-drop}
use Rattle.zy_pcap.specs.Session.{byte_or_other}
use Rattle.zy_pcap.specs.Held.{Run, Rise, covered, runs_at, woven_at, next_of, AreThere, AreAll}
use Rattle.zy_pcap.proofs.CoverLemmas.{covered_in, covered_above, covered_below, both_none}

-- runs that begin later have no byte
pub none_below : (runs : List Run) (n at : ℕ) → AllByRecursion (λ (run : Run). n ≤ run.0) runs → at < n → runs_at runs at ≡ None
none_below [] n at later low = refl
none_below (run ∷ runs) n at later low = rw (covered_below run.1 run.0 at (omega (arith, later.0, low))) (none_below runs n at later.1 low)

-- ---- bytes that come next

next_length : (at begin end : ℕ) (bytes : List ℕ) → length (next_of at begin bytes end) ≡ min (length bytes) (end - begin) - (at - begin)
next_length at begin end bytes =
    let size = length-drop (at - begin) bytes in
    let taken = length-take (min (length bytes) (end - begin) - (at - begin)) (drop (at - begin) bytes) in
    omega (arith, size, taken)

-- a row that begins at an offset has some more bytes
there_more : (byte : ℕ → Option ℕ) (from begin end : ℕ) (row bytes : List ℕ) → AreThere byte from row → begin ≤ from + length row
    → ((at : ℕ) → from + length row ≤ at → at < begin + length bytes → at < end → byte at ≡ covered bytes begin at)
    → AreThere byte from (row ++ next_of (from + length row) begin bytes end)
there_more byte from begin end row bytes there next same d within =
    let more : List ℕ = next_of (from + length row) begin bytes end in
    let size : length (row ++ more) ≡ length row + length more = length-append row more in
    let size_more = next_length (from + length row) begin end bytes in
    elim (cases_lt d (length row)) [
      | inl old ↦ there d old ∙ ap (λ (b : ℕ). Some b) (sym (get_or_append_left row more 0 d old))
      | inr new ↦ (let place : from + length row - begin + (d - length row) ≡ from + d - begin = omega (arith, next, new) in
          same (from + d) (omega (arith, new)) (omega (arith, size, size_more, within, new, next)) (omega (arith, size, size_more, within, new, next))
          ∙ covered_in bytes begin (from + d) (omega (arith, new, next)) (omega (arith, size, size_more, within, new, next))
          ∙ ap (λ (b : ℕ). Some b) (ap (λ (i : ℕ). get_or bytes i 0) (sym place)
          ∙ sym (get_or-append_right row more (length row) d 0 refl new
          ∙ get_or-take (min (length bytes) (end - begin) - (from + length row - begin)) (drop (from + length row - begin) bytes) (d - length row) 0 (omega (arith, size, size_more, within, new, next))
          ∙ get_or-drop (from + length row - begin) bytes (d - length row) 0)))
    ]

-- ---- a row that grows

-- a row has what is there, and what comes next is of these runs or of the bytes that come
pub record Weaves (byte : ℕ → Option ℕ) (from limit : ℕ) (bytes row : List ℕ) (runs : List Run) : Type 0 where
  pub there : AreThere byte from row
  pub within : from + length row ≤ limit
  pub rise : Rise runs
  pub rest : (at : ℕ) → from + length row ≤ at → at < limit → byte at ≡ woven_at runs bytes from at

module _ (byte : ℕ → Option ℕ) (from limit : ℕ) (bytes row : List ℕ) (fits : from + length bytes ≤ limit) where
  size_of : (begin end : ℕ) (more : List ℕ) → length (row ++ next_of (from + length row) begin more end) ≡ length row + (min (length more) (end - begin) - (from + length row - begin))
  size_of begin end more = length-append row (next_of (from + length row) begin more end) ∙ ap (λ (n : ℕ). length row + n) (next_length (from + length row) begin end more)

  -- the bytes that come, up to the next run
  pub weaves_bytes : (run : Run) (runs : List Run) → Weaves byte from limit bytes row (run ∷ runs)
      → Weaves byte from limit bytes (row ++ next_of (from + length row) from bytes run.0) (run ∷ runs)
  weaves_bytes run runs weaves =
      let size = size_of from run.0 bytes in
      record {
        there = there_more byte from from run.0 row bytes weaves.there (omega arith)
            (λ at low high before. weaves.rest at low (omega (arith, high, fits))
            ∙ ap (λ (b : Option ℕ). byte_or_other b (covered bytes from at)) (none_below (run ∷ runs) run.0 at (omega arith, weaves.rise.0) before));
        within = omega (arith, size, weaves.within, fits);
        rise = weaves.rise;
        rest = λ at low high. weaves.rest at (omega (arith, size, low)) high;
      }

  -- the bytes of the run
  pub weaves_run : (run : Run) (runs : List Run) → run.0 ≤ from + length row → Weaves byte from limit bytes row (run ∷ runs)
      → Weaves byte from limit bytes (row ++ next_of (from + length row) run.0 run.1 limit) runs
  weaves_run run runs next weaves =
      let size = size_of run.0 limit run.1 in
      record {
        there = there_more byte from run.0 limit row run.1 weaves.there next
            (λ at low high before. weaves.rest at low before
            ∙ rw (covered_in run.1 run.0 at (omega (arith, low, next)) high) refl);
        within = omega (arith, size, weaves.within);
        rise = weaves.rise.1;
        rest = λ at low high. weaves.rest at (omega (arith, size, low)) high
            ∙ rw (covered_above run.1 run.0 at (omega (arith, size, low, high, next))) refl;
      }

  -- a gap comes before the next run
  pub weaves_gap : (run : Run) (runs : List Run) → from + length row < run.0 → from + length bytes ≤ from + length row → Weaves byte from limit bytes row (run ∷ runs) → AreAll byte from limit row
  weaves_gap run runs gap over weaves = record {
    there = weaves.there;
    within = weaves.within;
    ends = λ low. weaves.rest (from + length row) (omega arith) low
        ∙ rw (none_below (run ∷ runs) run.0 (from + length row) (omega arith, weaves.rise.0) gap) (covered_above bytes from (from + length row) over);
  }

  -- there is no other run
  pub weaves_last : Weaves byte from limit bytes row [] → AreAll byte from limit (row ++ next_of (from + length row) from bytes limit)
  weaves_last weaves =
      let size = size_of from limit bytes in
      let whole : List ℕ = row ++ next_of (from + length row) from bytes limit in
      record {
        there = there_more byte from from limit row bytes weaves.there (omega arith) (λ at low high before. weaves.rest at low before);
        within = omega (arith, size, weaves.within, fits);
        ends = λ low. weaves.rest (from + length whole) (omega (arith, size)) low ∙ covered_above bytes from (from + length whole) (omega (arith, size, fits));
      }

-- ---- for the loop

module _ (byte : ℕ → Option ℕ) (from limit : ℕ) (bytes row : List ℕ) (all : List Run) (fits : from + length bytes ≤ limit) (weaves : Weaves byte from limit bytes row all) where
  on_run : (run : Run) (runs : List Run) → all ≡ run ∷ runs → Weaves byte from limit bytes row (run ∷ runs)
  on_run run runs is = subst (λ (l : List Run). Weaves byte from limit bytes row l) is weaves

  -- a gap comes after some of the bytes
  pub step_gap : (run : Run) (runs : List Run) (new : List ℕ) → all ≡ run ∷ runs → new ≡ row ++ next_of (from + length row) from bytes run.0 → from + length new < run.0 → AreAll byte from limit new
  step_gap run runs new is grew gap =
      let size : length new ≡ length row + (min (length bytes) (run.0 - from) - (from + length row - from)) = ap length grew ∙ size_of byte from limit bytes row fits from run.0 bytes in
      weaves_gap byte from limit bytes new fits run runs gap (omega (arith, size, gap))
      (subst (λ (l : List ℕ). Weaves byte from limit bytes l (run ∷ runs)) (sym grew) (weaves_bytes byte from limit bytes row fits run runs (on_run run runs is)))

  -- some of the bytes, and then those of a run
  pub step_run : (run : Run) (runs : List Run) (now part new : List ℕ) → all ≡ run ∷ runs → now ≡ row ++ next_of (from + length row) from bytes run.0 → run.0 ≤ from + length now → part ≡ run.1
      → new ≡ now ++ next_of (from + length now) run.0 part limit → Weaves byte from limit bytes new runs
  step_run run runs now part new is grew next same grew_on =
      let first : Weaves byte from limit bytes now (run ∷ runs) = subst (λ (l : List ℕ). Weaves byte from limit bytes l (run ∷ runs)) (sym grew) (weaves_bytes byte from limit bytes row fits run runs (on_run run runs is)) in
      subst (λ (l : List ℕ). Weaves byte from limit bytes l runs) (sym (grew_on ∙ ap (λ (l : List ℕ). now ++ next_of (from + length now) run.0 l limit) same)) (weaves_run byte from limit bytes now fits run runs next first)

  -- the rest of the bytes
  pub step_last : (new : List ℕ) → all ≡ [] → new ≡ row ++ next_of (from + length row) from bytes limit → AreAll byte from limit new
  step_last new is grew =
      subst (λ (l : List ℕ). AreAll byte from limit l) (sym grew) (weaves_last byte from limit bytes row fits (subst (λ (l : List Run). Weaves byte from limit bytes row l) is weaves))

-- ---- all bytes that are there

-- the bytes that come are among them
pub all_long : (runs : List Run) (bytes row : List ℕ) (from limit : ℕ) → from + length bytes ≤ limit → AreAll (woven_at runs bytes from) from limit row → length bytes ≤ length row
all_long runs bytes row from limit fits all =
    elim (cases_lt (length row) (length bytes)) [
      | inl short ↦ (let there = covered_in bytes from (from + length row) (omega arith) (omega (arith, short)) in
          let none = (both_none (runs_at runs (from + length row)) (covered bytes from (from + length row)) (all.ends (omega (arith, short, fits)))).1 in
          cc)
      | inr long ↦ long
    ]

-- the byte at an offset from there on
pub all_at : (byte : ℕ → Option ℕ) (from limit at : ℕ) (row : List ℕ) → AreAll byte from limit row → from ≤ at → at < from + length row → byte at ≡ covered row from at
all_at byte from limit at row all low high =
    let place : from + (at - from) ≡ at = omega (arith, low) in
    ap byte (sym place) ∙ all.there (at - from) (omega (arith, low, high)) ∙ sym (covered_in row from at low high)
