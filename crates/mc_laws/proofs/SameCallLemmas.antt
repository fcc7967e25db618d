-- A meta line asks for the same calls as its classic line.
use Rattle.std.proofs.Common.{◌≡◌, ℕ, Bool, true, false, ◌&&◌, not, if◌then◌else◌, List, [], ◌∷◌, ◌++◌, refl, sym, ap, ◌∙◌}
use Rattle.std.specs.Prelude.{◌==◌, codes, Option, None, Some, option_map}
use Rattle.std.specs.List.{list_all}
use Rattle.mc_meta.specs.declared.meta_line.Span.{Span}
use Rattle.mc_meta.specs.declared.meta_line.MetaLine.{MetaLine}
use Rattle.mc_meta.specs.declared.meta_line.MetaLine.TheVariants as Lines
use Rattle.mc_meta.specs.Key.{bytes_in}
use Rattle.mc_meta.specs.Number.{number_of, small_number_of, is_exptime}
use Rattle.mc_meta.specs.Meta.{is_key, meta_line}
use Rattle.mc_laws.proofs.SaidLemmas.{SaysOf, stored_at, exchanged_at, get_said, delete_said, store_said, exchange_said}
use Rattle.mc_parse.specs.declared.command.Command.{Command}
use Rattle.mc_parse.specs.declared.command.Command.TheVariants.{Store, Cas, Fault, Meta}
use Rattle.mc_parse.specs.declared.meta.Meta.TheVariants as Commands
use Rattle.mc_calls.specs.declared.call.Call.TheVariants as Calls
use Rattle.mc_parse.specs.declared.error_line.ErrorLine.TheVariants.{Unknown, BadLine, BadChunk}
use Rattle.mc_parse.specs.declared.verb.Verb.TheVariants.{Set}
use Rattle.mc_parse.specs.Words.{words, is_word, has_byte}
use Rattle.mc_parse.specs.MetaAsk.{meta_gets, meta_stores, meta_exchanges, meta_deletes}
use Rattle.mc_parse.specs.Form.{stores, exchanges, gets, deletes, metas, Form, faulty, asks, sizes, store_ask, cas_ask, check, find, form_in, meta_form, line_form}
use Rattle.mc_parse.specs.Need.{need, need_for}
use Rattle.mc_parse.specs.Meaning.{is_ended, value_of, line_command, block_command, large_command, command_for, block_command_for, large_command_for}
use Rattle.mc_parse.specs.Calls.{due}
use Rattle.mc_laws.specs.SameCalls.{spaced, AreWords, CallTheSame, AskTheSame}
use Rattle.mc_parse.proofs.WordLemmas.{words-parted, words-one}
use Rattle.mc_parse.proofs.ArityLemmas.{both}

-- ---- words

-- the words of spaced words are these
words-spaced : (ws : List (List ℕ)) → AreWords ws → words (spaced ws) ≡ ws
unfolding words
words-spaced [] are = refl
words-spaced (word ∷ []) are = words-one word (both (is_word word) true are).0
words-spaced (word ∷ next ∷ ws) are =
    let parts = both (is_word word) (list_all is_word (next ∷ ws)) are in
    words-parted word (spaced (next ∷ ws)) ∙ ap (λ (front : List (List ℕ)). front ++ words (spaced (next ∷ ws))) (words-one word parts.0)
    ∙ ap (λ (rest : List (List ℕ)). word ∷ rest) (words-spaced (next ∷ ws) parts.1)

-- a word before words
with_word : (word : List ℕ) (ws : List (List ℕ)) → is_word word ≡ true → AreWords ws → AreWords (word ∷ ws)
with_word word ws is are = go (is_word word) is
  where
    go : (b : Bool) → b ≡ true → b && list_all is_word ws ≡ true
    go true one = are
    go false one = one

-- a letter before a word makes a word
lettered : (letter : ℕ) (word : List ℕ) → (letter == 32) ≡ false → is_word word ≡ true → is_word (letter ∷ word) ≡ true
lettered letter word other is =
    let rest = (both (has_byte word) (list_all (λ byte. not (byte == 32)) word) is).1 in
    rw other rest

-- ---- forms

-- what two lines say asks for the same calls
record SayTheSame (form other : Form) : Type 0 where
  pub wants : need_for form ≡ need_for other
  pub alone : CallTheSame (command_for form) (command_for other)
  pub with_a_block : (block : List ℕ) → CallTheSame (block_command_for block form) (block_command_for block other)
  pub too_large : CallTheSame (large_command_for form) (large_command_for other)

same_lines : (line other : List ℕ) (form said : Form) → line_form line ≡ form → line_form other ≡ said → SayTheSame form said → AskTheSame line other
unfolding need line_command block_command large_command
same_lines line other form said is is_too same =
    record {
      wants = ap need_for is ∙ same.wants ∙ sym (ap need_for is_too);
      alone = λ shards conn. ap (λ (f : Form). due shards conn (command_for f ∷ [])) is ∙ same.alone shards conn ∙ sym (ap (λ (f : Form). due shards conn (command_for f ∷ [])) is_too);
      with_a_block = λ block shards conn. ap (λ (f : Form). due shards conn (block_command_for block f ∷ [])) is ∙ same.with_a_block block shards conn
          ∙ sym (ap (λ (f : Form). due shards conn (block_command_for block f ∷ [])) is_too);
      too_large = λ shards conn. ap (λ (f : Form). due shards conn (large_command_for f ∷ [])) is ∙ same.too_large shards conn
          ∙ sym (ap (λ (f : Form). due shards conn (large_command_for f ∷ [])) is_too);
    }

-- two commands, where the block is ended, and else the same fault
ended_same : (ended : Bool) (command other : Command) → CallTheSame command other
    → CallTheSame (if ended then command else Fault BadChunk false) (if ended then other else Fault BadChunk false)
ended_same true command other same = same
ended_same false command other same = λ shards conn. refl

faults_same : SayTheSame (faulty BadLine) (faulty BadLine)
faults_same = record { wants = refl; alone = λ shards conn. refl; with_a_block = λ block shards conn. refl; too_large = λ shards conn. refl }

-- ---- retrievals and deletions

get_same : (short : Bool) (key : List ℕ) → SayTheSame (check (short && true) BadLine (asks (gets (key ∷ []) false) false)) (if short then asks (metas (meta_gets key [])) false else faulty BadLine)
get_same true key = record {
  wants = refl;
  alone = λ shards conn. refl;
  with_a_block = λ block. ended_same (is_ended block) (Fault Unknown false) (Fault Unknown false) (λ shards conn. refl);
  too_large = λ shards conn. refl;
}
get_same false key = faults_same

delete_same : (short : Bool) (key : List ℕ) → SayTheSame (check (short && true) BadLine (asks (deletes key) false)) (if short then asks (metas (meta_deletes key [])) false else faulty BadLine)
delete_same true key = record {
  wants = refl;
  alone = λ shards conn. refl;
  with_a_block = λ block. ended_same (is_ended block) (Fault Unknown false) (Fault Unknown false) (λ shards conn. refl);
  too_large = λ shards conn. refl;
}
delete_same false key = faults_same

-- what a line says that says this of the place of its key
keyed_form : (line key : List ℕ) (said : Span → MetaLine) (form : List ℕ → Form) → ((place : Span) → meta_form line (said place) ≡ form (bytes_in line place)) → SaysOf line key said
    → meta_form line (meta_line line) ≡ (if is_key key then form key else faulty BadLine)
keyed_form line key said form each says = ap (meta_form line) says.is ∙ go (is_key key)
  where
    go : (short : Bool) → meta_form line (if short then said says.place else Lines.Bad) ≡ (if short then form key else faulty BadLine)
    go true = each says.place ∙ ap form says.text
    go false = refl

got_form : (line key : List ℕ) → words line ≡ codes "mg" ∷ key ∷ [] → line_form line ≡ (if is_key key then asks (metas (meta_gets key [])) false else faulty BadLine)
got_form line key split =
    ap (form_in line) split ∙ keyed_form line key (λ place. Lines.Get place []) (λ k. asks (metas (meta_gets k [])) false) (λ place. refl) (get_said line key split)

deleted_form : (line key : List ℕ) → words line ≡ codes "md" ∷ key ∷ [] → line_form line ≡ (if is_key key then asks (metas (meta_deletes key [])) false else faulty BadLine)
deleted_form line key split =
    ap (form_in line) split ∙ keyed_form line key (λ place. Lines.Delete place []) (λ k. asks (metas (meta_deletes k [])) false) (λ place. refl) (delete_said line key split)

-- `get` and `mg`
pub gets_same : (key : List ℕ) → is_word key ≡ true → AskTheSame (spaced (codes "get" ∷ key ∷ [])) (spaced (codes "mg" ∷ key ∷ []))
gets_same key is =
    let line : List ℕ = spaced (codes "get" ∷ key ∷ []) in
    let other : List ℕ = spaced (codes "mg" ∷ key ∷ []) in
    same_lines line other (check (is_key key && true) BadLine (asks (gets (key ∷ []) false) false)) (if is_key key then asks (metas (meta_gets key [])) false else faulty BadLine)
    (ap (form_in line) (words-spaced (codes "get" ∷ key ∷ []) (with_word (codes "get") (key ∷ []) refl (with_word key [] is refl))))
    (got_form other key (words-spaced (codes "mg" ∷ key ∷ []) (with_word (codes "mg") (key ∷ []) refl (with_word key [] is refl)))) (get_same (is_key key) key)

-- `delete` and `md`
pub deletes_same : (key : List ℕ) → is_word key ≡ true → AskTheSame (spaced (codes "delete" ∷ key ∷ [])) (spaced (codes "md" ∷ key ∷ []))
deletes_same key is =
    let line : List ℕ = spaced (codes "delete" ∷ key ∷ []) in
    let other : List ℕ = spaced (codes "md" ∷ key ∷ []) in
    same_lines line other (check (is_key key && true) BadLine (asks (deletes key) false)) (if is_key key then asks (metas (meta_deletes key [])) false else faulty BadLine)
    (ap (form_in line) (words-spaced (codes "delete" ∷ key ∷ []) (with_word (codes "delete") (key ∷ []) refl (with_word key [] is refl))))
    (deleted_form other key (words-spaced (codes "md" ∷ key ∷ []) (with_word (codes "md") (key ∷ []) refl (with_word key [] is refl)))) (delete_same (is_key key) key)

-- ---- storage

-- what a storage line says by the flags and the size that were found, as `set` and as `ms`
set_found : List ℕ → Option ℕ → Option ℕ → Form
set_found key flags bytes = find (option_map (store_ask Set key) (sizes flags bytes)) BadLine (λ ask. asks ask false)

meta_found : List ℕ → Option ℕ → Option ℕ → Form
meta_found key (Some flags) (Some bytes) = asks (metas (meta_stores Set key flags bytes [])) false
meta_found key flags bytes = faulty BadLine

-- the same with a unique, as `cas` and as `ms`
cas_found : List ℕ → Option ℕ → Option ℕ → Option ℕ → Form
cas_found key flags bytes unique = find (cas_ask key (sizes flags bytes) unique) BadLine (λ ask. asks ask false)

unique_found : List ℕ → Option ℕ → Option ℕ → Option ℕ → Form
unique_found key (Some flags) (Some bytes) (Some unique) = asks (metas (meta_exchanges key flags bytes unique [])) false
unique_found key flags bytes unique = faulty BadLine

stores_same : (key : List ℕ) (flags bytes : ℕ) → SayTheSame (asks (stores Set key flags bytes) false) (asks (metas (meta_stores Set key flags bytes [])) false)
stores_same key flags bytes = record {
  wants = refl;
  alone = λ shards conn. refl;
  with_a_block = λ block. ended_same (is_ended block) (Store Set key flags (value_of block) false) (Meta (Commands.Set key (Calls.Set key flags (value_of block)) [])) (λ shards conn. refl);
  too_large = λ shards conn. refl;
}

exchanges_same : (key : List ℕ) (flags bytes unique : ℕ) → SayTheSame (asks (exchanges key flags bytes unique) false) (asks (metas (meta_exchanges key flags bytes unique [])) false)
exchanges_same key flags bytes unique = record {
  wants = refl;
  alone = λ shards conn. refl;
  with_a_block = λ block. ended_same (is_ended block) (Cas key flags unique (value_of block) false) (Meta (Commands.Set key (Calls.Cas flags key unique (value_of block)) [])) (λ shards conn. refl);
  too_large = λ shards conn. refl;
}

set_same : (short : Bool) (key : List ℕ) (flags bytes : Option ℕ) → SayTheSame (check (short && true) BadLine (set_found key flags bytes)) (if short then meta_found key flags bytes else faulty BadLine)
unfolding set_found meta_found
set_same true key (Some flags) (Some bytes) = stores_same key flags bytes
set_same true key (Some flags) None = faults_same
set_same true key None (Some bytes) = faults_same
set_same true key None None = faults_same
set_same false key flags bytes = faults_same

cas_same : (short : Bool) (key : List ℕ) (flags bytes unique : Option ℕ)
    → SayTheSame (check (short && true) BadLine (cas_found key flags bytes unique)) (if short then unique_found key flags bytes unique else faulty BadLine)
unfolding cas_found unique_found
cas_same true key (Some flags) (Some bytes) (Some unique) = exchanges_same key flags bytes unique
cas_same true key (Some flags) (Some bytes) None = faults_same
cas_same true key (Some flags) None (Some unique) = faults_same
cas_same true key (Some flags) None None = faults_same
cas_same true key None (Some bytes) (Some unique) = faults_same
cas_same true key None (Some bytes) None = faults_same
cas_same true key None None (Some unique) = faults_same
cas_same true key None None None = faults_same
cas_same false key flags bytes unique = faults_same

-- ---- storage lines

stored_form : (line key flags bytes : List ℕ) → words line ≡ codes "ms" ∷ key ∷ bytes ∷ (70 ∷ flags) ∷ []
    → line_form line ≡ (if is_key key then meta_found key (small_number_of flags) (small_number_of bytes) else faulty BadLine)
unfolding meta_found
stored_form line key flags bytes split =
    let size = small_number_of bytes in
    let kept = small_number_of flags in
    ap (form_in line) split ∙ keyed_form line key (stored_at kept size) (λ k. meta_found k kept size) (go kept size) (store_said line key flags bytes split)
  where
    go : (flags bytes : Option ℕ) (place : Span) → meta_form line (stored_at flags bytes place) ≡ meta_found (bytes_in line place) flags bytes
    go (Some flags) (Some bytes) place = refl
    go (Some flags) None place = refl
    go None (Some bytes) place = refl
    go None None place = refl

exchanged_form : (line key flags bytes unique : List ℕ) → words line ≡ codes "ms" ∷ key ∷ bytes ∷ (70 ∷ flags) ∷ (67 ∷ unique) ∷ []
    → line_form line ≡ (if is_key key then unique_found key (small_number_of flags) (small_number_of bytes) (number_of unique) else faulty BadLine)
unfolding unique_found
exchanged_form line key flags bytes unique split =
    let size = small_number_of bytes in
    let kept = small_number_of flags in
    let only = number_of unique in
    ap (form_in line) split
    ∙ keyed_form line key (exchanged_at kept size only) (λ k. unique_found k kept size only) (go kept size only) (exchange_said line key flags bytes unique split)
  where
    go : (flags bytes unique : Option ℕ) (place : Span) → meta_form line (exchanged_at flags bytes unique place) ≡ unique_found (bytes_in line place) flags bytes unique
    go (Some flags) (Some bytes) (Some unique) place = refl
    go (Some flags) (Some bytes) None place = refl
    go (Some flags) None (Some unique) place = refl
    go (Some flags) None None place = refl
    go None (Some bytes) (Some unique) place = refl
    go None (Some bytes) None place = refl
    go None None (Some unique) place = refl
    go None None None place = refl

-- what `set` and `cas` say, where the exptime is one
set_form : (line key flags exptime bytes : List ℕ) → words line ≡ codes "set" ∷ key ∷ flags ∷ exptime ∷ bytes ∷ [] → is_exptime exptime ≡ true
    → line_form line ≡ check (is_key key && true) BadLine (set_found key (small_number_of flags) (small_number_of bytes))
unfolding set_found
set_form line key flags exptime bytes split lasting =
    ap (form_in line) split
    ∙ ap (λ (b : Bool). check (is_key key && true) BadLine (find (option_map (store_ask Set key) (if b then sizes (small_number_of flags) (small_number_of bytes) else None)) BadLine (λ ask. asks ask false))) lasting

cas_form : (line key flags exptime bytes unique : List ℕ) → words line ≡ codes "cas" ∷ key ∷ flags ∷ exptime ∷ bytes ∷ unique ∷ [] → is_exptime exptime ≡ true
    → line_form line ≡ check (is_key key && true) BadLine (cas_found key (small_number_of flags) (small_number_of bytes) (number_of unique))
unfolding cas_found
cas_form line key flags exptime bytes unique split lasting =
    ap (form_in line) split
    ∙ ap (λ (b : Bool). check (is_key key && true) BadLine (find (cas_ask key (if b then sizes (small_number_of flags) (small_number_of bytes) else None) (number_of unique)) BadLine (λ ask. asks ask false))) lasting

-- `set` and `ms` with the flags
pub sets_same : (key flags exptime bytes : List ℕ) → AreWords (key ∷ flags ∷ exptime ∷ bytes ∷ []) → is_exptime exptime ≡ true
    → AskTheSame (spaced (codes "set" ∷ key ∷ flags ∷ exptime ∷ bytes ∷ [])) (spaced (codes "ms" ∷ key ∷ bytes ∷ (70 ∷ flags) ∷ []))
sets_same key flags exptime bytes are lasting =
    let first = both (is_word key) (list_all is_word (flags ∷ exptime ∷ bytes ∷ [])) are in
    let second = both (is_word flags) (list_all is_word (exptime ∷ bytes ∷ [])) first.1 in
    let third = both (is_word exptime) (list_all is_word (bytes ∷ [])) second.1 in
    let others : AreWords (codes "ms" ∷ key ∷ bytes ∷ (70 ∷ flags) ∷ []) =
    with_word (codes "ms") (key ∷ bytes ∷ (70 ∷ flags) ∷ []) refl
    (with_word key (bytes ∷ (70 ∷ flags) ∷ []) first.0 (with_word bytes ((70 ∷ flags) ∷ []) (both (is_word bytes) true third.1).0
    (with_word (70 ∷ flags) [] (lettered 70 flags refl second.0) refl))) in
    let line : List ℕ = spaced (codes "set" ∷ key ∷ flags ∷ exptime ∷ bytes ∷ []) in
    let other : List ℕ = spaced (codes "ms" ∷ key ∷ bytes ∷ (70 ∷ flags) ∷ []) in
    same_lines line other (check (is_key key && true) BadLine (set_found key (small_number_of flags) (small_number_of bytes)))
    (if is_key key then meta_found key (small_number_of flags) (small_number_of bytes) else faulty BadLine)
    (set_form line key flags exptime bytes (words-spaced (codes "set" ∷ key ∷ flags ∷ exptime ∷ bytes ∷ []) (with_word (codes "set") (key ∷ flags ∷ exptime ∷ bytes ∷ []) refl are)) lasting)
    (stored_form other key flags bytes (words-spaced (codes "ms" ∷ key ∷ bytes ∷ (70 ∷ flags) ∷ []) others))
    (set_same (is_key key) key (small_number_of flags) (small_number_of bytes))

-- `cas` and `ms` with the flags and the unique
pub exchanges_are_same : (key flags exptime bytes unique : List ℕ) → AreWords (key ∷ flags ∷ exptime ∷ bytes ∷ unique ∷ []) → is_exptime exptime ≡ true
    → AskTheSame (spaced (codes "cas" ∷ key ∷ flags ∷ exptime ∷ bytes ∷ unique ∷ [])) (spaced (codes "ms" ∷ key ∷ bytes ∷ (70 ∷ flags) ∷ (67 ∷ unique) ∷ []))
exchanges_are_same key flags exptime bytes unique are lasting =
    let first = both (is_word key) (list_all is_word (flags ∷ exptime ∷ bytes ∷ unique ∷ [])) are in
    let second = both (is_word flags) (list_all is_word (exptime ∷ bytes ∷ unique ∷ [])) first.1 in
    let third = both (is_word exptime) (list_all is_word (bytes ∷ unique ∷ [])) second.1 in
    let fourth = both (is_word bytes) (list_all is_word (unique ∷ [])) third.1 in
    let others : AreWords (codes "ms" ∷ key ∷ bytes ∷ (70 ∷ flags) ∷ (67 ∷ unique) ∷ []) =
    with_word (codes "ms") (key ∷ bytes ∷ (70 ∷ flags) ∷ (67 ∷ unique) ∷ []) refl
    (with_word key (bytes ∷ (70 ∷ flags) ∷ (67 ∷ unique) ∷ []) first.0 (with_word bytes ((70 ∷ flags) ∷ (67 ∷ unique) ∷ []) fourth.0
    (with_word (70 ∷ flags) ((67 ∷ unique) ∷ []) (lettered 70 flags refl second.0)
    (with_word (67 ∷ unique) [] (lettered 67 unique refl (both (is_word unique) true fourth.1).0) refl)))) in
    let line : List ℕ = spaced (codes "cas" ∷ key ∷ flags ∷ exptime ∷ bytes ∷ unique ∷ []) in
    let other : List ℕ = spaced (codes "ms" ∷ key ∷ bytes ∷ (70 ∷ flags) ∷ (67 ∷ unique) ∷ []) in
    same_lines line other (check (is_key key && true) BadLine (cas_found key (small_number_of flags) (small_number_of bytes) (number_of unique)))
    (if is_key key then unique_found key (small_number_of flags) (small_number_of bytes) (number_of unique) else faulty BadLine)
    (cas_form line key flags exptime bytes unique (words-spaced (codes "cas" ∷ key ∷ flags ∷ exptime ∷ bytes ∷ unique ∷ []) (with_word (codes "cas") (key ∷ flags ∷ exptime ∷ bytes ∷ unique ∷ []) refl are)) lasting)
    (exchanged_form other key flags bytes unique (words-spaced (codes "ms" ∷ key ∷ bytes ∷ (70 ∷ flags) ∷ (67 ∷ unique) ∷ []) others))
    (cas_same (is_key key) key (small_number_of flags) (small_number_of bytes) (number_of unique))
