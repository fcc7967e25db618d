-- Coming after is reflexive and transitive.
use Rattle.std.proofs.Common.{ℕ, List, [], ◌++◌, append_assoc}
use Rattle.std.specs.Prelude.{Option}
use Rattle.std.proofs.lemmas.List.{append-nil}
use Rattle.zy_feed.specs.Feeding.{Feeding, LeadsTo}

-- each feeder comes after itself
pub leads_same : {S : Type 0} (rest : S → Option (List ℕ)) (faults : S → ℕ) (f : Feeding S) → LeadsTo rest faults f f
leads_same rest faults f first records bytes stands = ([], ([], rw (append-nil records, append-nil bytes) stands))

-- what comes after a later feeder comes after an earlier one
pub leads_on : {S : Type 0} (rest : S → Option (List ℕ)) (faults : S → ℕ) (f g h : Feeding S) → LeadsTo rest faults f g
    → LeadsTo rest faults g h → LeadsTo rest faults f h
leads_on rest faults f g h one two first records bytes stands =
    let mid = one first records bytes stands in
    let end = two first (records ++ mid.0) (bytes ++ mid.1.0) mid.1.1 in (
      mid.0 ++ end.0,
      (
        mid.1.0 ++ end.1.0,
        rw (
          ← append_assoc records mid.0 end.0,
          ← append_assoc bytes mid.1.0
              end.1.0,
        ) end.1.1,
      ),
    )
