use Rattle.std.proofs.Common.{◌<◌, ◌+◌, ◌^◌, ℕ, List, ◌++◌, length, get_or, refl, ap, ◌∙◌, arith, rules}
use Rattle.zy_calls.proofs.TextLemmas.{joined_as, Rise-at}
use Rattle.zy_calls.proofs.texts.Texts.append_copy.Goals as goal

pub append_further-requires-clause-fits : goal.append_further-requires-clause-fits
append_further-requires-clause-fits c = λ at within.
    let between = Rise-at 0 c.other.inside.ends.items (length c.other.inside.bytes) at 0 c.other.invariant (omega (arith, within, ap length c.as_slice.ensures.value)) in
    let place = ap (λ (ends : List ℕ). get_or ends at 0) c.as_slice.ensures.value in
    let fits : length c.bytes-start.result.now + length c.bytes.result.now < 2 ^ 64 = search rules in
    omega (arith, between.1, place, fits, ap length c.bytes.ensures.value)

pub invariant_of-self-2 : goal.invariant_of-self-2
invariant_of-self-2 c =
    let start = ap length c.bytes-start.ensures.value in
    (joined_as c.self.inside.bytes c.other.inside.bytes c.self.inside.ends.items c.other.inside.ends.items c.append.new.self c.append_further.new.ends.items
    c.self.invariant c.other.invariant
    (c.in_ok-append.ensures.ok ∙ ap (λ (bytes : List ℕ). c.self.inside.bytes ++ bytes) c.bytes-2.ensures.value)
    (c.append_further.ensures.value ∙ rw (c.reserve.ensures.items, start, c.as_slice.ensures.value) refl)).rise

pub returns-clause-ok : goal.returns-clause-ok
returns-clause-ok c =
    let start = ap length c.bytes-start.ensures.value in
    (joined_as c.self.inside.bytes c.other.inside.bytes c.self.inside.ends.items c.other.inside.ends.items c.append.new.self c.append_further.new.ends.items
    c.self.invariant c.other.invariant
    (c.in_ok-append.ensures.ok ∙ ap (λ (bytes : List ℕ). c.self.inside.bytes ++ bytes) c.bytes-2.ensures.value)
    (c.append_further.ensures.value ∙ rw (c.reserve.ensures.items, start, c.as_slice.ensures.value) refl)).texts_are
    ∙ rw (c.self.view_is, c.other.view_is) refl
