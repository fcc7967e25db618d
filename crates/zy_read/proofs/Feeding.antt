-- What further bytes mean for each place that a reader may have reached.
use Rattle.std.proofs.Common.{◌≡◌, ℕ, List, [], ◌∷◌, ◌++◌, refl, sym, ◌∙◌, ap, append_assoc}
use Rattle.std.specs.Prelude.{Some, Option, None, option_to_list, Result, Ok, Err}
use Rattle.std.proofs.lemmas.List.{append-nil}
use Rattle.zy_read.specs.declared.not_taken.NotTaken.{NotTaken}
use Rattle.zy_read.specs.declared.not_taken.NotTaken.TheVariants.{Fault, NoMemory}
use Rattle.zy_read.specs.Format.{Format, IsLasting, Step, Reading, with_front, read_on, reading_of, given_by}
use Rattle.zy_read.specs.Format.{fault_met, verdict_on}
use Rattle.zy_read.specs.Standing.{StandsAs, Feeds, MeetsFault, LastsAs, FeedsAs, TellsFault, TellsLasting, Follows}

-- one reading after another
abbrev pub then_read : {P G : Type 0} → Reading P G → Reading P G → Reading P G
then_read front back = record { given = front.given ++ back.given; last = back.last }

-- a text in two parts
pub read_append : {P G : Type 0} (step : P → ℕ → Step P G) (p : P) (b more : List ℕ) → read_on step p (b ++ more) ≡ then_read (read_on step p b) (read_on step (read_on step p b).last more)
unfolding read_on
read_append step p [] more = refl
read_append {P} {G} step p (byte ∷ b) more =
    let gave : Option G = (step p byte).gave in
    let q : P = (step p byte).next in
    let front : Reading P G = read_on step q b in
    let back : Reading P G = read_on step front.last more in
    ap (λ (r : Reading P G). with_front gave r) (read_append step q b more)
    ∙ ap (λ (l : List G). record { given = l; last = back.last }) (sym (append_assoc (option_to_list gave) front.given back.given))

-- what follows what was fed
pub read_more : {P G F V : Type 0} (format : Format P G F V) (p : P) (given : List G) (b more : List ℕ) → StandsAs format p given b
    → reading_of format (b ++ more) ≡ then_read (record { given = given; last = p }) (read_on format.step p more)
unfolding StandsAs reading_of
read_more {P} {G} format p given b more stands =
    read_append format.step format.start b more ∙ ap (λ (r : Reading P G). then_read r (read_on format.step r.last more)) stands

-- bytes that are read from a place are fed there
pub fed_by : {P G F V : Type 0} (format : Format P G F V) (p q : P) (bytes : List ℕ) (gave : List G) → read_on format.step p bytes ≡ record { given = gave; last = q } → Feeds format p q bytes gave
unfolding StandsAs
fed_by {P} {G} format p q bytes gave reads given b stands =
    read_more format p given b bytes stands ∙ ap (λ (r : Reading P G). then_read (record { given = given; last = p }) r) reads

-- no further byte
pub fed_none : {P G F V : Type 0} (format : Format P G F V) (p : P) → Feeds format p p [] []
unfolding read_on
fed_none format p = fed_by format p p [] [] refl

-- one further byte
pub fed_step : {P G F V : Type 0} (format : Format P G F V) (p : P) (byte : ℕ) → Feeds format p (format.step p byte).next (byte ∷ []) (option_to_list (format.step p byte).gave)
unfolding read_on
fed_step {P} {G} format p byte =
    fed_by format p (format.step p byte).next (byte ∷ []) (option_to_list (format.step p byte).gave)
    (ap (λ (l : List G). record { given = l; last = (format.step p byte).next }) (append-nil (option_to_list (format.step p byte).gave)))

-- bytes after bytes
pub fed_on : {P G F V : Type 0} (format : Format P G F V) (p q r : P) (first second : List ℕ) (gave more : List G) → Feeds format p q first gave → Feeds format q r second more → Feeds format p r (first ++ second) (gave ++ more)
fed_on {P} {G} format p q r first second gave more one two given b stands =
    rw (sym (append_assoc b first second), sym (append_assoc given gave more)) (two (given ++ gave) (b ++ first) (one given b stands))

-- after a fault nothing is read
pub read_broken : {P G F V : Type 0} (format : Format P G F V) (lasting : IsLasting format) (p : P) (fault : F) (more : List ℕ) → format.fault_in p ≡ Some fault → read_on format.step p more ≡ record { given = []; last = p }
unfolding read_on
read_broken format lasting p fault [] is = refl
read_broken {P} {G} format lasting p fault (byte ∷ more) is =
    ap (λ (s : Step P G). with_front s.gave (read_on format.step s.next more)) (lasting.still p byte fault is) ∙ read_broken format lasting p fault more is

-- after a fault was met, a longer text gives no further record
pub broken_stays : {P G F V : Type 0} (format : Format P G F V) (lasting : IsLasting format) (p : P) (fault : F) (more : List ℕ) → format.fault_in p ≡ Some fault → Feeds format p p more []
broken_stays format lasting p fault more is = fed_by format p p more [] (read_broken format lasting p fault more is)

-- the verdict on what was fed
pub verdict_here : {P G F V : Type 0} (format : Format P G F V) (p : P) (given : List G) (b : List ℕ) → StandsAs format p given b → verdict_on format b ≡ format.ended p given
unfolding verdict_on StandsAs
verdict_here {P} {G} format p given b stands = ap (λ (r : Reading P G). format.ended r.last r.given) stands

-- the fault that was met in what was fed
pub fault_here : {P G F V : Type 0} (format : Format P G F V) (p : P) (given : List G) (b : List ℕ) → StandsAs format p given b → fault_met format b ≡ format.fault_in p
unfolding fault_met StandsAs
fault_here {P} {G} format p given b stands = ap (λ (r : Reading P G). format.fault_in r.last) stands

-- the records of what was fed
pub given_here : {P G F V : Type 0} (format : Format P G F V) (p : P) (given : List G) (b : List ℕ) → StandsAs format p given b → given_by format b ≡ given
unfolding given_by StandsAs
given_here {P} {G} format p given b stands = ap (λ (r : Reading P G). r.given) stands

-- a reader to which no byte was fed
pub starts : {P G F V : Type 0} (format : Format P G F V) → StandsAs format format.start [] []
unfolding StandsAs reading_of read_on
starts format = refl

-- ---- the clauses of readers

-- a fault met by bytes is met in them
pub met_by : {P G F V : Type 0} (format : Format P G F V) (old new : P) (bytes : List ℕ) (gave : List G) (told : Option F) → Feeds format old new bytes gave → format.fault_in new ≡ told → MeetsFault format old bytes told
met_by format old new bytes gave told feeds is given b stands = fault_here format new (given ++ gave) (b ++ bytes) (feeds given b stands) ∙ is

-- it is the fault of every longer text
pub lasts_by : {P G F V : Type 0} (format : Format P G F V) (lasting : IsLasting format) (old new : P) (bytes : List ℕ) (gave : List G) (fault : F) → Feeds format old new bytes gave → format.fault_in new ≡ Some fault → LastsAs format old bytes fault
lasts_by format lasting old new bytes gave fault feeds is given b more stands =
    verdict_here format new (given ++ (gave ++ [])) (b ++ (bytes ++ more))
    (fed_on format old new new bytes more gave [] feeds (broken_stays format lasting new fault more is) given b stands)
    ∙ lasting.counts new (given ++ (gave ++ [])) fault is

-- the clauses of a byte that was taken
pub fed : {P G F V : Type 0} (format : Format P G F V) (wants : P → ℕ → Type 0) (old new : P) (byte : ℕ) (answer : Result (Option G) (NotTaken F)) → Follows format wants (format.step old byte) old new byte answer → FeedsAs format old new (byte ∷ []) answer
fed {P} {G} format wants old new byte (Ok gave) follows = λ given b stands. rw (follows.0, follows.1) (fed_step format old byte given b stands)
fed {P} {G} format wants old new byte (Err (Fault fault)) follows = λ given b stands.
    let none : option_to_list (format.step old byte).gave ≡ [] = ap (λ (o : Option G). option_to_list o) follows.1 in
    rw (follows.0, ← none) (fed_step format old byte given b stands)
fed format wants old new byte (Err NoMemory) follows = follows.0

pub told : {P G F V : Type 0} (format : Format P G F V) (wants : P → ℕ → Type 0) (old new : P) (byte : ℕ) (answer : Result (Option G) (NotTaken F)) → Follows format wants (format.step old byte) old new byte answer → TellsFault format old (byte ∷ []) answer
told format wants old new byte (Ok gave) follows = met_by format old new (byte ∷ []) (option_to_list gave) None (fed format wants old new byte (Ok gave) follows) follows.2
told format wants old new byte (Err (Fault fault)) follows = met_by format old new (byte ∷ []) [] (Some fault) (fed format wants old new byte (Err (Fault fault)) follows) follows.2
told format wants old new byte (Err NoMemory) follows = tt

pub lasts : {P G F V : Type 0} (format : Format P G F V) (lasting : IsLasting format) (wants : P → ℕ → Type 0) (old new : P) (byte : ℕ) (answer : Result (Option G) (NotTaken F)) → Follows format wants (format.step old byte) old new byte answer → TellsLasting format old (byte ∷ []) answer
lasts format lasting wants old new byte (Ok gave) follows = tt
lasts format lasting wants old new byte (Err (Fault fault)) follows = lasts_by format lasting old new (byte ∷ []) [] fault (fed format wants old new byte (Err (Fault fault)) follows) follows.2
lasts format lasting wants old new byte (Err NoMemory) follows = tt

-- ---- laws

-- a fault that was met is met in every longer text
pub fault_stays : {P G F V : Type 0} (format : Format P G F V) (lasting : IsLasting format) (text more : List ℕ) (fault : F) → fault_met format text ≡ Some fault → fault_met format (text ++ more) ≡ Some fault
unfolding fault_met StandsAs
fault_stays {P} {G} format lasting text more fault is =
    let r : Reading P G = reading_of format text in
    met_by format r.last r.last more [] (Some fault) (broken_stays format lasting r.last fault more is) is r.given text refl

-- it is the verdict on every longer text
pub fault_lasts : {P G F V : Type 0} (format : Format P G F V) (lasting : IsLasting format) (text more : List ℕ) (fault : F) → fault_met format text ≡ Some fault → verdict_on format (text ++ more) ≡ format.bad fault
unfolding fault_met StandsAs
fault_lasts {P} {G} format lasting text more fault is =
    let r : Reading P G = reading_of format text in
    verdict_here format r.last (r.given ++ []) (text ++ more) (broken_stays format lasting r.last fault more is r.given text refl)
    ∙ lasting.counts r.last (r.given ++ []) fault is
