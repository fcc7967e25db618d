use Rattle.std.proofs.Common.{refl, ap}
use Rattle.zy_core.specs.Core.{Cored, identity_of}
use Rattle.zy_rounds.proofs.CoreLemmas.{fits_there, same_there, turns_there}
use Rattle.zy_rounds.proofs.AloneLemmas.{alone_some, alone_first}
use Rattle.zy_rounds.proofs.naps.call_up_first.Goals as goal

pub call_up-requires : goal.call_up-requires
call_up-requires c =
    let some = alone_some c.args.pass.now.core c.args.cores.now.items c.requires.alone in
    record {
      fits = fits_there c.args.shared.now c.args.cores.now.items c.args.cores.now.items 0 c.index_mut-core.result.now some c.index_mut-core.ensures.value refl c.requires.fits;
      core = alone_first c.args.pass.now.core c.args.cores.now.items c.index_mut-core.result.now c.requires.alone c.index_mut-core.ensures.value;
      bells = c.requires.bells;
      count = c.requires.count;
    }

pub returns-clause-same : goal.returns-clause-same
returns-clause-same c =
    same_there c.args.cores.now.items c.args.cores.now.items 0 c.index_mut-core.result.now c.call_up.new.self (alone_some c.args.pass.now.core c.args.cores.now.items c.requires.alone) c.index_mut-core.ensures.value (ap identity_of c.call_up.ensures.value) refl

pub returns-clause-turns : goal.returns-clause-turns
returns-clause-turns c =
    turns_there c.args.cores.now.items c.args.cores.now.items 0 c.index_mut-core.result.now c.call_up.new.self (alone_some c.args.pass.now.core c.args.cores.now.items c.requires.alone) c.index_mut-core.ensures.value (ap (λ (d : Cored). d.turns) c.call_up.ensures.value) refl
