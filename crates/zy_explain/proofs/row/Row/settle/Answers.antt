use Rattle.std.proofs.Common.{refl, length, arith}
use Rattle.std.proofs.lemmas.Option.{slice_get_read}
use Rattle.zy_explain.proofs.row.Row.settle.Goals as goal

pub returns : goal.returns
returns c =
    let tracks = c.args.self.now.tracks.items in
    let within = c.if-number-len.false in
    let long = c.len.ensures in
    record {
      settled = λ done. record {
        one = c.index_mut.result.now;
        other = c.settle.new.self;
        is = slice_get_read tracks (length tracks) c.args.number c.index_mut.result.now refl (omega (arith, within, long)) c.index_mut.ensures.value;
        set = refl;
        settles = c.in_ok-settle.ensures.settled;
      };
    }
