use Rattle.std.proofs.Common.{[], ◌∷◌, ◌++◌, ◌≡◌, List, Some, length, refl, sym, ap, ◌∙◌, subst, arith, append_assoc, length-append}
use Rattle.std.proofs.lemmas.List.{map-append}
use Rattle.zy_conn.specs.Block.{Blocked}
use Rattle.zy_home.specs.Link.{IsFresh}
use Rattle.zy_home.specs.Parts.{AreFresh, rings_of_blocks, rings_of_inlets}
use Rattle.zy_home.proofs.MakeLemmas.{fresh_push}
use Rattle.zy_home.proofs.home.making.fill.Goals as goal

pub loop-block-init : goal.loop-block-init
loop-block-init c = record {
  done = [];
  used = [];
  blocks = refl;
  inlets = refl;
  rings = c.requires.rings;
  slots = c.requires.empty.0;
  links = subst (AreFresh [] []) (sym c.requires.empty.1) tt;
  slot_room = (let none = ap length c.requires.empty.0 in let room = c.requires.room.0 in omega arith);
  link_room = (let none = ap length c.requires.empty.1 in let room = c.requires.room.1 in omega arith);
}

pub loop-block-preserved : goal.loop-block-preserved
loop-block-preserved c =
    let i = c.loop-block.invariant in
    let b = c.in-Some.block in
    let inlet = c.in-Some-next.inlet in
    let blocks : c.loop-block.blocks ≡ b ∷ c.next.new.self = c.in-Some.ensures.value in
    let inlets : c.loop-block.inlets ≡ inlet ∷ c.next-in-Some.new.self = c.in-Some-next.ensures.value in
    let rings : inlet.ring ∷ rings_of_inlets c.next-in-Some.new.self ≡ b.work.ring ∷ rings_of_blocks c.next.new.self
    = ap rings_of_inlets (sym inlets) ∙ i.rings ∙ ap rings_of_blocks blocks in
    let slots = c.push_reserved-in-Some.ensures.items in
    let links = c.push_reserved.ensures.items in
    let slots_capacity = c.push_reserved-in-Some.ensures.capacity in
    let links_capacity = c.push_reserved.ensures.capacity in
    let less = ap (λ (l : List Blocked). length l) blocks in
    let slot_room = i.slot_room in
    let link_room = i.link_room in record {
      done = i.done ++ b ∷ [];
      used = i.used ++ inlet ∷ [];
      blocks = append_assoc i.done (b ∷ []) c.next.new.self ∙ ap (λ l. i.done ++ l) (sym blocks) ∙ i.blocks;
      inlets = append_assoc i.used (inlet ∷ []) c.next-in-Some.new.self ∙ ap (λ l. i.used ++ l) (sym inlets) ∙ i.inlets;
      rings = cc;
      slots = slots ∙ ap (λ l. l ++ Some b ∷ []) i.slots ∙ sym (map-append (λ (x : Blocked). Some x) i.done (b ∷ []));
      links = subst (AreFresh (i.done ++ b ∷ []) (i.used ++ inlet ∷ [])) (sym links)
          (fresh_push i.done i.used c.loop-block.links.items b inlet c.new.result i.links (subst (λ n. IsFresh n inlet c.new.result) c.conn.ensures.value c.new.ensures.value));
      slot_room = (let size = ap length slots in omega (arith, length-append c.loop-block.slots.items (Some b ∷ [])));
      link_room = (let size = ap length links in omega (arith, length-append c.loop-block.links.items (c.new.result ∷ [])));
    }
