use Rattle.std.proofs.Common.{refl}
use Rattle.zy_rounds.proofs.CoreLemmas.{fits_there, same_there}
use Rattle.zygos_tail.proofs.virtual_time.turns.take_turn.Goals as goal

pub timed_turn-requires : goal.timed_turn-requires
timed_turn-requires g c =
    record { fits = fits_there c.args.shared.now c.args.cores.now.items c.args.cores.now.items c.args.at c.index_mut-core.result.now c.requires.within c.index_mut-core.ensures.value refl c.requires.fits }

pub returns-in_err-turn : goal.returns-in_err-turn
returns-in_err-turn g c =
    record { same = same_there c.args.cores.now.items c.args.cores.now.items c.args.at c.index_mut-core.result.now c.timed_turn.new.core c.requires.within c.index_mut-core.ensures.value c.timed_turn.ensures.same refl }

pub returns : goal.returns
returns g c =
    record { same = same_there c.args.cores.now.items c.args.cores.now.items c.args.at c.index_mut-core.result.now c.timed_turn.new.core c.requires.within c.index_mut-core.ensures.value c.timed_turn.ensures.same refl }
