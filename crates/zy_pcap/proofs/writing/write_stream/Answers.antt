use Rattle.std.proofs.Common.{◌++◌, ℕ, List, [], drop, ap, ◌∙◌, sym, refl, arith, append_assoc}
use Rattle.std.specs.Prelude.{slice_range}
use Rattle.std.proofs.lemmas.List.{append-nil}
use Rattle.zy_base.proofs.WritingLemmas.{written_none, written_on, writes_all, writes_as, writes_after, writes_cut}
use Rattle.zy_pcap.specs.Texts.{stream_text, segment_text}
use Rattle.zy_pcap.proofs.TextLemmas.{stream_steps, stream_over}
use Rattle.zy_pcap.proofs.writing.write_stream.Goals as goal

pub loop-at-init : goal.loop-at-init
loop-at-init g c = record {
  within = omega arith;
  text = [];
  written = written_none;
  left = refl;
}

pub returns-in_err-write_segment : goal.returns-in_err-write_segment
returns-in_err-write_segment g c =
    let steps = stream_steps c.args.conn c.loop-at.at c.min-end.result c.args.bytes.now c.loop-at-test.true c.min-end.ensures in
    record {
      writes = writes_as (ap (λ (l : List ℕ). c.loop-at.invariant.text ++ l) (sym steps) ∙ c.loop-at.invariant.left)
          (writes_after c.loop-at.invariant.written (writes_cut _ c.from_residual.ensures.0 c.in_err-write_segment.ensures.writes));
    }

pub loop-at-preserved : goal.loop-at-preserved
loop-at-preserved g c =
    let text : List ℕ = c.loop-at.invariant.text in
    let segment : List ℕ = segment_text c.args.conn (slice_range c.args.bytes.now c.loop-at.at c.min-end.result) in
    let rest : List ℕ = stream_text c.args.conn (drop c.min-end.result c.args.bytes.now) in
    let steps = stream_steps c.args.conn c.loop-at.at c.min-end.result c.args.bytes.now c.loop-at-test.true c.min-end.ensures in
    record {
      within = omega (arith, c.min-end.ensures);
      text = text ++ segment;
      written = written_on c.loop-at.invariant.written c.in_ok-write_segment.ensures.writes;
      left = append_assoc text segment rest ∙ ap (λ (l : List ℕ). text ++ l) (sym steps) ∙ c.loop-at.invariant.left;
    }

pub returns : goal.returns
returns g c =
    let over = stream_over c.args.conn c.loop-at.at c.args.bytes.now (omega arith) in
    record {
      writes = writes_as (sym (append-nil c.loop-at.invariant.text) ∙ ap (λ (l : List ℕ). c.loop-at.invariant.text ++ l) (sym over) ∙ c.loop-at.invariant.left)
          (writes_all c.loop-at.invariant.written);
    }
