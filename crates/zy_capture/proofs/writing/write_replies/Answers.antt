use Rattle.std.proofs.Common.{◌≡◌, ◌∙◌, refl}
use Rattle.zy_base.proofs.WritingLemmas.{writes_as, writes_then, writes_cut}
use Rattle.zy_capture.specs.Replies.{replies_magic, replies_bytes}
use Rattle.zy_capture.proofs.writing.write_replies.Goals as goal

pub returns-in_err-write_whole : goal.returns-in_err-write_whole
unfolding replies_bytes
returns-in_err-write_whole g c =
    let head : c.magic_of.result.now ≡ replies_magic c.args.outputs.now.version = c.magic_of.ensures.value ∙ rw c.version.ensures.value refl in
    record { writes = writes_cut _ c.from_residual.ensures.0 (writes_as head c.in_err-write_whole.ensures.writes) }

pub returns-in_err-write_connections : goal.returns-in_err-write_connections
unfolding replies_bytes
returns-in_err-write_connections g c =
    let head : c.magic_of.result.now ≡ replies_magic c.args.outputs.now.version = c.magic_of.ensures.value ∙ rw c.version.ensures.value refl in
    record {
      writes = writes_then (writes_as head c.in_ok-write_whole.ensures.writes)
          (writes_cut _ c.from_residual-in_err-write_connections.ensures.0 c.in_err-write_connections.ensures.writes);
    }

pub returns : goal.returns
unfolding replies_bytes
returns g c =
    let head : c.magic_of.result.now ≡ replies_magic c.args.outputs.now.version = c.magic_of.ensures.value ∙ rw c.version.ensures.value refl in
    record {
      writes = writes_then (writes_as head c.in_ok-write_whole.ensures.writes)
          (writes_then c.in_ok-write_connections.ensures.writes c.write_whole-2.ensures.writes);
    }
