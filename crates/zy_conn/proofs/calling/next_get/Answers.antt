use Rattle.std.proofs.Common.{◌≡◌, length, Some, slice_get, refl, ap, subst, ◌∙◌, ℕ, arith}
use Rattle.std.specs.Prelude.{option_map}
use Rattle.std.proofs.lemmas.Option.{slice_get_read}
use Rattle.mc_parse.specs.Calls.{get_calls, get_at}
use Rattle.zy_conn.proofs.StepLemmas.{key_there, makes_next}
use Rattle.zy_conn.proofs.calling.next_get.Goals as goal

pub returns-then-count-ge-COMMAND_LIMIT-clause-call : goal.returns-then-count-ge-COMMAND_LIMIT-clause-call
returns-then-count-ge-COMMAND_LIMIT-clause-call c =
    let shards = c.args.store.now.shards in
    let part : c.len.result ≡ length c.args.replies.now.items = omega (arith, c.len.ensures, c.args.replies.now.ok.0) in
    let near : slice_get c.args.keys.now (length c.args.replies.now.items) ≡ Some c.in-Some.key.now =
    subst (λ (n : ℕ). slice_get c.args.keys.now n ≡ Some c.in-Some.key.now) part (slice_get_read c.args.keys.now (length c.args.keys.now) c.len.result c.in-Some.key.now refl c.in-Some.ensures.lookup.3.0 c.in-Some.ensures.lookup.1) in
    (get_at shards c.in-Some.key.now, key_there shards c.args.keys.now (length c.args.replies.now.items) ∙ ap (option_map (get_at shards)) near, omega arith, refl, refl)

pub returns-clause-call : goal.returns-clause-call
returns-clause-call c =
    let shards = c.args.store.now.shards in
    let part : c.len.result ≡ length c.args.replies.now.items = omega (arith, c.len.ensures, c.args.replies.now.ok.0) in
    let near : slice_get c.args.keys.now (length c.args.replies.now.items) ≡ Some c.in-Some.key.now =
    subst (λ (n : ℕ). slice_get c.args.keys.now n ≡ Some c.in-Some.key.now) part (slice_get_read c.args.keys.now (length c.args.keys.now) c.len.result c.in-Some.key.now refl c.in-Some.ensures.lookup.3.0 c.in-Some.ensures.lookup.1) in
    makes_next c.args.index (get_calls shards c.args.keys.now) (get_at shards c.in-Some.key.now) c.args.replies.now.items c.args.pass.now c.make_get.new.replies.items c.make_get.new.pass c.make_get.result _
    (key_there shards c.args.keys.now (length c.args.replies.now.items) ∙ ap (option_map (get_at shards)) near) c.make_get.ensures.call
