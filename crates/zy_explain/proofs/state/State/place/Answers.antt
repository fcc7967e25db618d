use Rattle.std.proofs.Common.{ℕ, List, Option, IfSome, subst, sym, refl, ◌∙◌, length, arith}
use Rattle.std.proofs.lemmas.Option.{slice_get_read}
use Rattle.zy_explain.specs.Following.{RowFollows}
use Rattle.zy_explain.proofs.ByLemmas.{placed_some, shards_followed}
use Rattle.zy_explain.proofs.state.State.place.Goals as goal

pub returns-in-Some-2 : goal.returns-in-Some-2
returns-in-Some-2 c =
    let old = c.args.self.now in
    let rows = old.rows.items in
    let name = c.args.placement.now.name in
    let s = c.in-Some.session.now in
    let lasting = c.args.lasting.now in
    let row = c.index_mut.result.now in
    let other = c.follow.new.self in
    let moment = c.in-Some-2.moment in
    let within = c.if-conn-len.false in
    let long = c.len.ensures in
    let found = subst (λ (f : Option ℕ). IfSome f (RowFollows c.args.rules lasting s c.output_of-output.result.now old.store c.follow.new.store row other name old.moment)) c.in-Some-2.is c.in_ok-moment.ensures.followed in
    record {
      shards = λ made. shards_followed c.args.rules lasting s c.output_of-output.result.now old.store c.follow.new.store row other name old.moment moment found ∙ c.requires.shards;
      stands = λ made began stands. placed_some c.args.rules lasting c.args.sessions.now c.args.outputs.now.sessions began old _ name s row other moment
          (sym c.in-Some.ensures.value)
          (slice_get_read rows (length rows) name.conn row refl (omega (arith, within, long)) c.index_mut.ensures.value)
          (subst (λ (o : List ℕ). RowFollows c.args.rules lasting s o old.store c.follow.new.store row other name old.moment moment) c.output_of-output.ensures.value found)
          refl refl stands;
    }
