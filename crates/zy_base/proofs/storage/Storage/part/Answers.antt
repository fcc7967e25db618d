use Rattle.std.proofs.Common.{◌≡◌, ◌≤◌, List, ℕ, length, subst}
use Rattle.std.specs.Prelude.{IfOk}
use Rattle.zy_base.specs.Blob.{bytes_of}
use Rattle.zy_base.proofs.BlobLemmas.{part_of_part}
use Rattle.zy_base.proofs.storage.Storage.part.Goals as goal

pub returns-in-Shared-clause-value : goal.returns-in-Shared-clause-value
returns-in-Shared-clause-value c =
    rw c.in-Shared.is (subst (λ (bytes : List ℕ). IfOk c.part.result (λ part. bytes_of part ≡ bytes))
    (part_of_part c.in-Shared.block.value.items c.in-Shared.start c.in-Shared.len c.args.from c.args.end c.requires.order (subst (λ s. c.args.end ≤ length (bytes_of s)) c.in-Shared.is c.requires.within))
    c.part.ensures.value)
