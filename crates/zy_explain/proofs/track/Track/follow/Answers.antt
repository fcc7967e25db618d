use Rattle.zy_explain.proofs.ByLemmas.{follows_by}
use Rattle.zy_explain.proofs.track.Track.follow.Goals as goal

pub returns : goal.returns
returns c = record {
  followed = follows_by c.args.rules c.args.lasting.now c.args.session.now c.args.output.now c.args.store.now _ c.args.placement.now.name c.args.latest
      c.args.self.now c.settle.new.self _ c.in_ok-settle.ensures.settled c.make_next.result c.make_next.ensures.made;
}
