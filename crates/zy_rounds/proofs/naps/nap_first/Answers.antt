use Rattle.std.proofs.Common.{length, set, refl}
use Rattle.std.proofs.lemmas.Result.{IfOk-weaker}
use Rattle.zy_table.proofs.SliceLemmas.{get_at, get_set_there}
use Rattle.zy_rounds.specs.Turns.{HaveTurned}
use Rattle.zy_rounds.specs.Naps.{NappedTo, FirstNapped}
use Rattle.zy_rounds.proofs.CoreLemmas.{fits_there, same_there}
use Rattle.zy_rounds.proofs.AloneLemmas.{alone_some, alone_first}
use Rattle.zy_rounds.proofs.TurnLemmas.{nap_next, alone_turned}
use Rattle.zy_rounds.proofs.naps.nap_first.Goals as goal

pub nap_one-requires : goal.nap_one-requires
nap_one-requires g c =
    let some = alone_some c.args.pass.now.core c.args.cores.now.items c.requires.alone in
    record {
      fits = fits_there c.args.shared.now c.args.cores.now.items c.args.cores.now.items 0 c.index_mut-core.result.now some c.index_mut-core.ensures.value refl c.requires.fits;
      core = alone_first c.args.pass.now.core c.args.cores.now.items c.index_mut-core.result.now c.requires.alone c.index_mut-core.ensures.value;
      bells = c.requires.bells;
    }

pub returns-clause-same : goal.returns-clause-same
returns-clause-same g c =
    same_there c.args.cores.now.items c.args.cores.now.items 0 c.index_mut-core.result.now c.nap_one.new.core (alone_some c.args.pass.now.core c.args.cores.now.items c.requires.alone) c.index_mut-core.ensures.value c.nap_one.ensures.same refl

pub returns-clause-napped : goal.returns-clause-napped
returns-clause-napped g c =
    let cores = length c.args.shared.now.rings in
    let core = c.index_mut-core.result.now in
    let there = get_at c.args.cores.now.items 0 core core (alone_some c.args.pass.now.core c.args.cores.now.items c.requires.alone) c.index_mut-core.ensures.value in
    IfOk-weaker c.nap_one.result (NappedTo cores core c.nap_one.new.core c.args.pass.now c.nap_one.new.pass)
    (FirstNapped cores c.args.cores.now.items (set c.args.cores.now.items 0 c.nap_one.new.core) c.args.pass.now c.nap_one.new.pass)
    (λ round to. record { core = core; napped = c.nap_one.new.core; was = there; is = get_set_there c.args.cores.now.items 0 c.nap_one.new.core core there; nap = to })
    c.nap_one.ensures.napped

pub returns-clause-turns : goal.returns-clause-turns
returns-clause-turns g c =
    let cores = length c.args.shared.now.rings in
    let core = c.index_mut-core.result.now in
    let there = get_at c.args.cores.now.items 0 core core (alone_some c.args.pass.now.core c.args.cores.now.items c.requires.alone) c.index_mut-core.ensures.value in
    IfOk-weaker c.nap_one.result (NappedTo cores core c.nap_one.new.core c.args.pass.now c.nap_one.new.pass)
    (λ round. HaveTurned c.args.cores.now.items (set c.args.cores.now.items 0 c.nap_one.new.core))
    (λ round to. alone_turned c.args.pass.now.core c.args.cores.now.items core c.nap_one.new.core c.requires.alone there (nap_next cores core c.nap_one.new.core c.args.pass.now c.nap_one.new.pass round to))
    c.nap_one.ensures.napped
