use Rattle.std.proofs.Common.{◌++◌}
use Rattle.std.specs.Prelude.{option_to_list}
use Rattle.zy_input.proofs.keep.begin.Goals as goal

pub make-requires : goal.make-requires
make-requires g c =
    let k = c.requires.keeping in
    record { known = (k.1.bytes, k.1.small, c.in-Some.ensures.value (k.1.given ++ option_to_list k.0) k.1.bytes k.1.reader) }
