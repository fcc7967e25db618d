-- The text that answers a meta command with its reply (docs/PROFILE.md, "Answers"; memcached's protocol.txt, "Meta
-- Commands"). What the flag `q` hides is this project's own rule.
use Rattle.std.specs.Prelude.{ℕ, Bool, ◌==◌, if◌then◌else◌, List, [], ◌∷◌, ◌++◌, length, codes, decimal, Option, None}
use Rattle.std.specs.Prelude.{Some}
use Rattle.mc_calls.specs.declared.call_reply.CallReply.{CallReply}
use Rattle.mc_calls.specs.declared.call_reply.CallReply.TheVariants.{Miss, Hit, Stored, NotStored, Exists, NotFound}
use Rattle.mc_calls.specs.declared.call_reply.CallReply.TheVariants.{Deleted, TooLarge}
use Rattle.mc_meta.specs.Flags.{is_among}
use Rattle.mc_parse.specs.Saying.{About, a_found, a_stored, a_removed}
use Rattle.mc_reply.specs.declared.marks.Found.{Found}
use Rattle.mc_reply.specs.Line.{line, too_large, unless}

-- ---- letters

-- `q`: some answers are not sent
abbrev pub quiet_letter : ℕ
quiet_letter = 113

-- `v`: the value is shown
abbrev pub value_letter : ℕ
value_letter = 118

-- `q` is among the letters
abbrev pub has_quiet_letter : List ℕ → Bool
has_quiet_letter letters = is_among letters quiet_letter

-- ---- marks

-- what marks show of an item: its flags, its CAS value, and the bytes of its value
abbrev pub found_of : ℕ → ℕ → List ℕ → Found
found_of flags unique value = record { flags = flags; unique = unique; bytes = length value }

-- the mark of an item: `f` its flags, `c` its CAS value, `s` the bytes of its value
abbrev pub item_mark : Found → ℕ → List ℕ
item_mark found letter =
    if letter == 102 then codes " f" ++ decimal found.flags else
    if letter == 99 then codes " c" ++ decimal found.unique else
    if letter == 115 then codes " s" ++ decimal found.bytes else
    []

-- the same, if an item was found
abbrev pub found_mark : Option Found → ℕ → List ℕ
found_mark None letter = []
found_mark (Some found) letter = item_mark found letter

-- the mark of a letter: `k` the key, another that of the item; other letters have none
abbrev pub mark_text : List ℕ → Option Found → ℕ → List ℕ
mark_text key found letter = if letter == 107 then codes " k" ++ key else found_mark found letter

-- the marks of letters, in the order of the line
abbrev pub marks_text : List ℕ → Option Found → List ℕ → List ℕ
marks_text key found [] = []
marks_text key found (letter ∷ letters) = mark_text key found letter ++ marks_text key found letters

-- a code and its marks, as a line
abbrev pub marked : List ℕ → List ℕ → Option Found → List ℕ → List ℕ
marked code key found letters = line (code ++ marks_text key found letters)

-- ---- answers

-- the text of an item that was found, with its value if that is requested
abbrev pub hit_text : List ℕ → List ℕ → Found → List ℕ → List ℕ
hit_text key flags found value = if is_among flags value_letter
    then marked (codes "VA " ++ decimal found.bytes) key (Some found) flags ++ line value
    else marked (codes "HD") key (Some found) flags

-- the text of a retrieval; a miss is shown without marks, or not at all if the line has `q`
abbrev pub get_text : List ℕ → List ℕ → CallReply → List ℕ
get_text key flags (Hit item_flags unique value) =
    hit_text key flags (found_of item_flags unique value) value
get_text key flags Miss = unless (has_quiet_letter flags) (line (codes "EN"))
get_text key flags reply = []

-- the text of a storage command; that it stored is not shown if the line has `q`
abbrev pub set_text : List ℕ → List ℕ → CallReply → List ℕ
set_text key marks Stored = unless (has_quiet_letter marks) (marked (codes "HD") key None marks)
set_text key marks NotStored = marked (codes "NS") key None marks
set_text key marks Exists = marked (codes "EX") key None marks
set_text key marks NotFound = marked (codes "NF") key None marks
set_text key marks TooLarge = line too_large
set_text key marks reply = []

-- the text of a deletion; nothing if the line has `q`
abbrev pub delete_text : List ℕ → List ℕ → CallReply → List ℕ
delete_text key flags Deleted = unless (has_quiet_letter flags) (marked (codes "HD") key None flags)
delete_text key flags NotFound = unless (has_quiet_letter flags) (marked (codes "NF") key None flags)
delete_text key flags reply = []

-- the text of a reply with the marks of letters, by what it is about
abbrev pub about_text : About → List ℕ → List ℕ → CallReply → List ℕ
about_text a_found key letters reply = get_text key letters reply
about_text a_stored key letters reply = set_text key letters reply
about_text a_removed key letters reply = delete_text key letters reply

-- the text of the one reply with the marks of letters
abbrev pub marks_answer : About → List ℕ → List ℕ → List CallReply → List ℕ
marks_answer about key letters (reply ∷ []) = about_text about key letters reply
marks_answer about key letters replies = []
