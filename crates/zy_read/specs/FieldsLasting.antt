-- The first fault of a text of fields counts.
use Rattle.std.proofs.Common.{◌≡◌, ℕ, List, refl, ap}
use Rattle.std.specs.Prelude.{Option, Some, None}
use Rattle.zy_read.specs.Format.{IsLasting}
use Rattle.zy_read.specs.Fields.{Fields, Place, step, ended_by, format_of}

-- after a fault no byte changes anything
still : {S G F : Type 0} (fields : Fields S G F) (p : Place S F) (byte : ℕ) (fault : F) → p.fault ≡ Some fault
    → step fields p byte ≡ record { next = p; gave = None }
still fields p byte fault is = rw is refl

-- the first fault counts
pub lasting : {S G F V : Type 0} (fields : Fields S G F) (good : S → List G → V) (bad : F → V)
    → IsLasting (format_of fields good bad)
lasting {S} {G} {F} fields good bad = record {
  still = still fields;
  counts = λ p given fault is. ap (λ (o : Option F). ended_by o fields good bad p given) is;
}
