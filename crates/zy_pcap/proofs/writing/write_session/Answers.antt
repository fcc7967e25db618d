use Rattle.std.proofs.Common.{◌++◌, sym, ap, ◌∙◌, arith}
use Rattle.zy_base.proofs.WritingLemmas.{writes_as, writes_then, writes_cut}
use Rattle.zy_pcap.specs.Session.{longest}
use Rattle.zy_pcap.specs.Held.{byte_held}
use Rattle.zy_pcap.specs.Texts.{close_text, stream_text}
use Rattle.zy_pcap.proofs.TextLemmas.{first_session, later_session}
use Rattle.zy_pcap.proofs.writing.write_session.Goals as goal

pub returns-then-session-eq0 : goal.returns-then-session-eq0
returns-then-session-eq0 g c = record {
  writes = writes_as (ap (stream_text c.args.conn) c.stream.ensures.value ∙ sym (first_session c.args.conn c.args.session (longest (byte_held c.args.stream.now)) (omega arith)))
      c.write_stream.ensures.writes;
}

pub returns-in_err-write_close : goal.returns-in_err-write_close
returns-in_err-write_close g c = record {
  writes = writes_as (sym (later_session c.args.conn c.args.session (longest (byte_held c.args.stream.now)) (omega arith)))
      (writes_cut _ c.from_residual.ensures.0 c.in_err-write_close.ensures.writes);
}

pub returns : goal.returns
returns g c = record {
  writes = writes_as (ap (λ t. close_text c.args.conn ++ stream_text c.args.conn t) c.stream-2.ensures.value ∙ sym (later_session c.args.conn c.args.session (longest (byte_held c.args.stream.now)) (omega arith)))
      (writes_then c.in_ok-write_close.ensures.writes c.write_stream-2.ensures.writes);
}
