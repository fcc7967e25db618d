-- What is so of the records that are kept of a capture: the count was read before them, each is of a connection below
-- the count, and few are closes.
use Rattle.std.proofs.Common.{◌≡◌, ℕ, ◌+◌, ◌*◌, ◌<◌, ◌≤◌, ◌==◌, Bool, true, false, List, [], ◌∷◌, ◌++◌, length, sym, ◌∙◌, ap, subst, arith}
use Rattle.std.specs.Prelude.{if◌then◌else◌, Option, None, Some}
use Rattle.std.specs.List.{AllByRecursion}
use Rattle.zy_read.specs.Bytes.{AreBytes}
use Rattle.zy_capture.specs.declared.record.Record.{Record}
use Rattle.zy_capture.specs.declared.record.Record.TheVariants as Kinds
use Rattle.zy_capture.specs.Capture.{connection_limit, IsRecordOf}
use Rattle.zy_capture.specs.SoFar.{IsCaptureSoFar}
use Rattle.zy_capture.specs.Steps.{CaptureProgress}
use Rattle.zy_capture.specs.Streams.{closes, sessions_of, no_bytes, with_records}
use Rattle.zy_capture.specs.Verdict.{count_of, records_of}
use Rattle.zy_capture.proofs.AddLemmas.{streams_size}
use Rattle.zy_capture.proofs.SoFarLemmas.{records_so_far}
use Rattle.zy_capture.proofs.StreamLemmas.{count_held}
use Rattle.zy_capture.proofs.TellLemmas.{count_stays, told_count}
use Rattle.zy_capture.proofs.WholeLemmas.{clean_short}
use Rattle.zy_input.specs.Keeping.{IsAdding}
use Rattle.zy_input.specs.declared.notes.Noted.{Noted}
use Rattle.zy_input.specs.Parts.{conn_of}
use Rattle.zy_input.specs.Kinds.{MayKeep, capture_keeping}
use Rattle.zy_input.proofs.CaptureLemmas.{conn_below}
use Rattle.zy_input.proofs.KeepingLemmas.{Stays, not_none, kept_here, given_last, given_some}

-- ---- the count

-- the count of a text is at most the greatest
pub count_few : (text : List ℕ) (count : ℕ) → AreBytes text → Some count ≡ count_of text → count ≤ connection_limit
count_few text count small is = (told_count text count small (sym is)).few

-- a count that was read stays
pub stays : {N : Type 0} (Holds : N → ℕ → List Record → Type 0) → Stays (capture_keeping Holds)
stays Holds bytes more count small is = count_stays bytes more count small is

-- ---- a further record

-- where a record was given, the records are those of a capture
so_far : {N : Type 0} (Holds : N → ℕ → List Record → Type 0) (reader : CaptureProgress) (kept : Option (Noted N)) (item : Record) (is : IsAdding (capture_keeping Holds) reader kept item) → IsCaptureSoFar is.bytes
so_far Holds reader kept item is = records_so_far is.bytes is.small is.clean (λ none. given_some (capture_keeping Holds) reader kept item is none)

-- so there are streams to which it is added
pub streams_made : {N : Type 0} (Holds : N → ℕ → List Record → Type 0) (reader : CaptureProgress) (kept : Option (Noted N)) (item : Record) → IsAdding (capture_keeping Holds) reader kept item → kept ≡ None → ⊥
streams_made Holds reader kept item is none =
    let all = so_far Holds reader kept item is in
    not_none (capture_keeping Holds) kept is.bytes is.given all.count none all.count_is is.kept

last_holds : (P : Record → Type 0) (given : List Record) (item : Record) → AllByRecursion P (given ++ item ∷ []) → P item
last_holds P [] item all = all.0
last_holds P (first ∷ given) item all = last_holds P given item all.1

closes_front : (conn : ℕ) (given : List Record) (item : Record) → closes conn given ≤ closes conn (given ++ item ∷ [])
closes_front conn [] item = omega arith
closes_front conn (Kinds.Segment t ∷ given) item = closes_front conn given item
closes_front conn (Kinds.Close other ∷ given) item = go (other == conn) (closes_front conn given item)
  where
    go : (b : Bool) → closes conn given ≤ closes conn (given ++ item ∷ []) → (if b then closes conn given + 1 else closes conn given) ≤ (if b then closes conn (given ++ item ∷ []) + 1 else closes conn (given ++ item ∷ []))
    go true few = omega (arith, few)
    go false few = few

-- and they have room for it, and there are notes on the records before it
pub may_keep : {N : Type 0} (Holds : N → ℕ → List Record → Type 0) (reader : CaptureProgress) (kept : Option (Noted N)) (item : Record) (noted : Noted N) → IsAdding (capture_keeping Holds) reader kept item → kept ≡ Some noted
    → MayKeep noted.streams item × ((count : ℕ) × (given : List Record) × Holds noted.notes count given × (conn_of item < count))
may_keep Holds reader kept item noted is made =
    let may = go item (last_holds (IsRecordOf all.version all.count) is.given item (subst (AllByRecursion (IsRecordOf all.version all.count)) same all.lawful.lawful)) in
    (may, (all.count, is.given, here.1, conn_below noted.streams item all.count may size))
  where
    all : IsCaptureSoFar is.bytes
    all = so_far Holds reader kept item is

    same : records_of is.bytes ≡ is.given ++ item ∷ []
    same = given_last (capture_keeping Holds) reader kept item is

    here : (noted.streams ≡ with_records (no_bytes all.count) is.given) × Holds noted.notes all.count is.given
    here = kept_here (capture_keeping Holds) kept noted is.bytes is.given all.count made all.count_is is.kept

    size : length noted.streams ≡ all.count
    size = ap (λ (l : List (List (List ℕ))). length l) here.0 ∙ streams_size all.count is.given

    go : (r : Record) → IsRecordOf all.version all.count r → MayKeep noted.streams r
    go (Kinds.Segment s) lawful = omega (arith, lawful.0, size)
    go (Kinds.Close conn) lawful =
        let held = ap (λ (l : List (List (List ℕ))). length (sessions_of l conn)) here.0 ∙ count_held all.count conn is.given lawful.1 in
        let spent : 5 * closes conn (is.given ++ item ∷ []) ≤ length is.bytes = subst (λ (l : List Record). 5 * closes conn l ≤ length is.bytes) same (all.spent conn) in
        (omega (arith, lawful.1, size), omega (arith, held, spent, clean_short is.bytes is.clean, closes_front conn is.given item))
