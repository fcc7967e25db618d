use Rattle.std.proofs.Common.{inl, refl, [], ◌∷◌, arith}
use Rattle.std.specs.Prelude.{codes}
use Rattle.std.specs.Fmt.{digits}
use Rattle.std.proofs.lemmas.List.Sorted.{IsPermutation-append_comm}
use Rattle.mc_answers.proofs.answers.worked_answers.Goals as goal

pub returns : goal.returns
unfolding digits
returns c = record {
  order = record {
    fit = (
      (tt, omega arith, ((omega arith, omega arith), tt)),
      ((tt, omega arith, ((omega arith, omega arith), tt)), ((tt, tt, ((tt, tt), tt)), tt)),
    );
    text = record {
      items = codes "VALUE b 0 1 7\r\nx\r\n" ∷ codes "VALUE a 0 3 2\r\n\r\n1\r\n" ∷ [];
      order = IsPermutation-append_comm (codes "VALUE a 0 3 2\r\n\r\n1\r\n" ∷ []) (codes "VALUE b 0 1 7\r\nx\r\n" ∷ []);
      is = refl;
    };
  };
  version = record { fit = refl; text = record { line = record { body = codes "VERSION 1.6.18\r"; inner = refl; is = refl }; rest = codes "1.6.18"; is = refl } };
  fault = record { fit = refl; text = inl (record { line = record { body = codes "ERROR\r"; inner = refl; is = refl }; rest = []; is = refl }) };
  failed = record {
    fit = refl;
    text = record { line = record { body = codes "SERVER_ERROR out of memory storing object\r"; inner = refl; is = refl }; rest = codes " out of memory storing object"; is = refl };
  };
  quiet = record { fit = (tt, tt, ((tt, tt), tt)); text = refl };
  get = record { said = (refl, (refl, tt)); plain = refl };
}
