-- The connections of generated traffic are apart.
use Rattle.std.proofs.Common.{◌≡◌, ℕ, ◌+◌, ◌<◌, ◌≤◌, List, [], ◌∷◌, ◌++◌, length, map, sym, ap, ◌∙◌, subst, arith}
use Rattle.std.proofs.Common.{append-nil}
use Rattle.std.specs.Prelude.{flat_map}
use Rattle.std.specs.List.{AllByRecursion, Contains, range_with_len}
use Rattle.std.proofs.lemmas.List.Elements.{All-from_recursion, All-contains}
use Rattle.mc_parse.specs.declared.command.Command.{Command}
use Rattle.zy_capture.specs.declared.record.Record.{Record}
use Rattle.zy_capture.specs.Streams.{stream}
use Rattle.zy_frame.specs.Frame.{IsFrameText, frame_of, command_of}
use Rattle.zy_frame.specs.Cut.{commands_of, joined}
use Rattle.zy_frame.proofs.CutLaws.{commands_of_splits}
use Rattle.zy_run.specs.Commands.{commands_in}
use Rattle.mc_parse.specs.Plain.{keys_of, all_keys_of, IsPlain, IsOwnCommand}
use Rattle.zy_run.specs.Apart.{AreApart}
use Rattle.zy_gen.specs.Traffic.{request_text, traffic_records, IsTraffic}
use Rattle.zy_gen.proofs.LengthLemmas.{text_few}
use Rattle.zy_gen.specs.Said.{IsKeyOf, IsOwnText, Says, CarriesRequests}
use Rattle.zy_gen.proofs.SolidLemmas.{each-append}
use Rattle.zy_gen.proofs.SaidLemmas.{said_text, said_own}
use Rattle.zy_gen.proofs.RequestLemmas.{says}
use Rattle.zy_gen.proofs.KeyLemmas.{key-conn}
use Rattle.zy_gen.proofs.StreamLemmas.{closes-none, gives-traffic}

-- ---- texts

text_says : (conn : ℕ) (text : List ℕ) → conn < 4096 → IsOwnText conn text → Says conn text
text_says conn text few own = subst (Says conn) (sym own.is) (says conn own.item own.request few own.small)

text_short : (conn : ℕ) (text : List ℕ) → conn < 4096 → IsOwnText conn text → length text ≤ 65536
text_short conn text few own =
    let all : length text ≡ length (request_text conn own.item own.request) = ap length own.is in
    let some = text_few conn own.item own.request few own.small in
    omega arith

texts_frame : (conn : ℕ) (texts : List (List ℕ)) → conn < 4096 → AllByRecursion (IsOwnText conn) texts → AllByRecursion IsFrameText texts
texts_frame conn [] few own = tt
texts_frame conn (text ∷ texts) few own = (said_text conn text (text_says conn text few own.0) (text_short conn text few own.0), texts_frame conn texts few own.1)

texts_own : (conn : ℕ) (texts : List (List ℕ)) → conn < 4096 → AllByRecursion (IsOwnText conn) texts → AllByRecursion (IsOwnCommand (IsKeyOf conn)) (map (λ text. command_of (frame_of text)) texts)
texts_own conn [] few own = tt
texts_own conn (text ∷ texts) few own = (said_own conn text (text_says conn text few own.0) (text_short conn text few own.0), texts_own conn texts few own.1)

-- ---- commands

nothing_begins : (text more : List ℕ) → [] ≡ text ++ more → IsFrameText text → ⊥
nothing_begins [] more is framed = framed
nothing_begins (byte ∷ bytes) more is framed = cc

commands_are : (conn : ℕ) (bytes : List ℕ) (texts : List (List ℕ)) → conn < 4096 → bytes ≡ joined texts → AllByRecursion (IsOwnText conn) texts
    → commands_of bytes ≡ map (λ text. command_of (frame_of text)) texts
commands_are conn bytes texts few whole own =
    commands_of_splits bytes texts [] (record { whole = whole ∙ sym (append-nil (joined texts)); each = texts_frame conn texts few own; partial = nothing_begins })

module _ (number connections commands conn : ℕ) (is : IsTraffic number connections commands) (within : conn < connections) where
  unfoldable pub records : List Record
  records = traffic_records number connections commands

  few : conn < 4096
  few = let most = is.few_connections in omega arith

  pub gives : CarriesRequests conn commands records
  unfolding records
  gives = gives-traffic conn number connections commands within

  pub commands_is : commands_in records conn ≡ map (λ text. command_of (frame_of text)) gives.texts
  unfolding records
  commands_is =
      ap (λ n. flat_map commands_of (map (λ session. stream conn session records) (range_with_len 0 (n + 1)))) (closes-none conn records gives.segments)
      ∙ append-nil (commands_of (stream conn 0 records)) ∙ commands_are conn (stream conn 0 records) gives.texts few gives.whole gives.each

  -- the commands of a connection of generated traffic are plain, and use its own keys
  own_commands : AllByRecursion (IsOwnCommand (IsKeyOf conn)) (commands_in (traffic_records number connections commands) conn)
  unfolding records
  own_commands = subst (AllByRecursion (IsOwnCommand (IsKeyOf conn))) (sym commands_is) (texts_own conn gives.texts few gives.each)

each_plain : (conn : ℕ) (commands : List Command) → AllByRecursion (IsOwnCommand (IsKeyOf conn)) commands → AllByRecursion IsPlain commands
each_plain conn [] own = tt
each_plain conn (command ∷ commands) own = (own.0.plain, each_plain conn commands own.1)

each_key : (conn : ℕ) (commands : List Command) → AllByRecursion (IsOwnCommand (IsKeyOf conn)) commands → AllByRecursion (IsKeyOf conn) (all_keys_of commands)
each_key conn [] own = tt
each_key conn (command ∷ commands) own = each-append (IsKeyOf conn) (keys_of command) (all_keys_of commands) own.0.keys (each_key conn commands own.1)

-- ---- the traffic

pub traffic_apart : (number connections commands : ℕ) → IsTraffic number connections commands → AreApart connections (commands_in (traffic_records number connections commands))
traffic_apart number connections commands is =
    let small : (conn : ℕ) → conn < connections → conn < 4096 = λ conn within. let few = is.few_connections in omega arith in
    let key_is : (conn : ℕ) (key : List ℕ) → conn < connections → Contains (all_keys_of (commands_in (traffic_records number connections commands) conn)) key → IsKeyOf conn key =
    λ conn key within inside.
    All-contains (IsKeyOf conn) (all_keys_of (commands_in (traffic_records number connections commands) conn)) key
    (All-from_recursion (IsKeyOf conn) (all_keys_of (commands_in (traffic_records number connections commands) conn))
    (each_key conn (commands_in (traffic_records number connections commands) conn) (own_commands number connections commands conn is within))) inside in
    record {
      plain = λ conn within.
          All-from_recursion IsPlain (commands_in (traffic_records number connections commands) conn)
          (each_plain conn (commands_in (traffic_records number connections commands) conn) (own_commands number connections commands conn is within));
      keys = λ conn other key within below first second.
          let one : IsKeyOf conn key = key_is conn key within first in
          let two : IsKeyOf other key = key_is other key below second in
          let few = small conn within in
          let low = small other below in
          key-conn conn other one.item two.item (omega arith) (omega arith) (sym one.is ∙ two.is);
    }
