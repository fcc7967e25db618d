use Rattle.std.proofs.Common.{ℕ, Option, IfSome, subst, refl, length, arith}
use Rattle.std.proofs.lemmas.Option.{slice_get_read}
use Rattle.zy_explain.specs.Following.{FollowsTo}
use Rattle.zy_explain.proofs.row.Row.follow.Goals as goal

pub returns-in-Some : goal.returns-in-Some
returns-in-Some c =
    let tracks = c.args.self.now.tracks.items in
    let within = c.if-number-len.false in
    let long = c.len.ensures in
    record {
      followed = record {
        one = c.index_mut.result.now;
        other = c.follow.new.self;
        is = slice_get_read tracks (length tracks) c.args.placement.now.name.session c.index_mut.result.now refl (omega (arith, within, long)) c.index_mut.ensures.value;
        set = refl;
        follows = subst (λ (f : Option ℕ). IfSome f (FollowsTo c.args.rules c.args.lasting.now c.args.session.now c.args.output.now c.args.store.now c.follow.new.store
            c.index_mut.result.now c.follow.new.self c.args.placement.now.name c.args.latest)) c.in-Some.is c.in_ok-moment.ensures.followed;
      };
    }
