use Rattle.std.proofs.Common.{⊎_elim, refl, arith}
use Rattle.std.specs.Prelude.{◌≡◌, ◌≤◌, length, get_or}
use Rattle.zy_capture.specs.Whole.{front_conn, front_size, HoldsSegment}
use Rattle.zy_capture.proofs.SegmentLemmas.{begins_segment, begins_close, holds_begun}
use Rattle.zy_capture.proofs.whole.begins_with_record.Goals as goal

pub returns-in-Some : goal.returns-in-Some
returns-in-Some c = record { value = (λ e. begins_segment c.args.bytes.now _ _ c.are_bytes.ensures.value c.in-Some.ensures.some, λ b. refl) }

pub returns-then-bytes-lt-CLOSE : goal.returns-then-bytes-lt-CLOSE
returns-then-bytes-lt-CLOSE c = record {
  value = (
    λ e. absurd (cc),
    λ b. absurd (⊎_elim
        (λ (h : HoldsSegment c.args.bytes.now (front_conn c.args.bytes.now) (front_size c.args.bytes.now)). c.in_default.ensures.none (front_conn c.args.bytes.now) (front_size c.args.bytes.now) h)
        (λ (t : (get_or c.args.bytes.now 0 0 ≡ 67) × (5 ≤ length c.args.bytes.now)). let long = t.1 in let short = c.if-bytes-lt-CLOSE.true in omega arith)
        (holds_begun c.args.bytes.now b)),
  );
}

pub returns-then-bytes-eq67 : goal.returns-then-bytes-eq67
returns-then-bytes-eq67 c = record { value = (λ e. begins_close c.args.bytes.now c.are_bytes.ensures.value c.if-bytes-eq67.true c.if-bytes-lt-CLOSE.false, λ b. refl) }

pub returns : goal.returns
returns c = record {
  value = (
    λ e. absurd (cc),
    λ b. absurd (⊎_elim
        (λ (h : HoldsSegment c.args.bytes.now (front_conn c.args.bytes.now) (front_size c.args.bytes.now)). c.in_default.ensures.none (front_conn c.args.bytes.now) (front_size c.args.bytes.now) h)
        (λ (t : (get_or c.args.bytes.now 0 0 ≡ 67) × (5 ≤ length c.args.bytes.now)). c.if-bytes-eq67.false t.0)
        (holds_begun c.args.bytes.now b)),
  );
}
