use Rattle.std.proofs.Common.{◌≡◌, ◌<◌, ◌≤◌, ◌+◌, ◌++◌, ◌∷◌, [], Bool, true, false, List, All, drop}
use Rattle.std.proofs.Common.{remove, length}
use Rattle.std.proofs.Common.{get_or, get_or-set_same, length-append, length-set, ap, sym, ◌∙◌}
use Rattle.std.proofs.Common.{subst, arith}
use Rattle.std.proofs.lemmas.List.{drop-set-lt}
use Rattle.std.proofs.lemmas.List.Edits.{length-remove}
use Rattle.std.proofs.lemmas.List.Elements.{All-head, All-tail, All-set}
use Rattle.its_model.specs.Contention.{HeldFrame, counted, counted_as, stays}
use Rattle.its_contention.specs.Tests.{IsTested}
use Rattle.its_contention.proofs.Sorting.{AreSorted-stays, AreSorted-goes, front}
use Rattle.its_contention.proofs.Sorting.{removed-set, removed-after, All-removed}
use Rattle.its_contention.proofs.buffer.sort_out.Goals as goal

pub loop-i-preserved-then-note : goal.loop-i-preserved-then-note
loop-i-preserved-then-note g c =
    let inv = c.loop-i.invariant in
    let xs = c.loop-i.held.items in
    let i = c.loop-i.i in
    let x = c.index_mut-waiting.result.now in
    let y = c.note.new.self in
    let lt : i < length xs = omega arith in
    let at : x ≡ get_or xs i x = c.index_mut-waiting.ensures.value in
    let as_counted : y ≡ counted_as c.is_copy-found.result c.args.sender x =
    c.if-note.ensures.state in
    let still : stays c.args.copies y ≡ true = ap (stays c.args.copies) as_counted
    ∙ sym c.if-note.ensures.stays in
    record {
      held_room = inv.held_room;
      left_room = inv.left_room;
      few = simp length-set inv.few;
      within = simp length-set (omega arith);
      waiting = All-set (λ h. stays c.args.copies h ≡ true) xs i y still inv.waiting;
      lists = λ test tested.
          let before = inv.lists test tested in
          let P = IsTested g.C.Fn c.args.is_copy.now test in
          let here = subst (All P) (front xs i x lt at) before.0 in
          let found : c.is_copy-found.result ≡ test x.frame =
          All-head P x (drop (i + 1) xs) here c.is_copy-found.result
          (record {
            shown = c.frame.result;
            shows = c.frame.ensures;
            says = record { met = c.is_copy-found.ensures };
          }) in
          let is : y ≡ counted test c.args.sender x =
          as_counted ∙ ap (λ (b : Bool). counted_as b c.args.sender x) found in (
            subst (All P) (sym (drop-set-lt (i + 1) xs i y (omega arith)))
                (All-tail P x (drop (i + 1) xs) here),
            AreSorted-stays c.args.copies test c.args.sender c.args.held.now.items xs
                c.loop-i.left.items i x y lt at is still before.1,
          );
    }

pub loop-i-preserved : goal.loop-i-preserved
loop-i-preserved g c =
    let inv = c.loop-i.invariant in
    let xs = c.loop-i.held.items in
    let i = c.loop-i.i in
    let x = c.index_mut-waiting.result.now in
    let y = c.note.new.self in
    let left = c.loop-i.left.items in
    let zs = c.remove-gone.new.self.items in
    let lt : i < length xs = omega arith in
    let within : i ≤ length xs = inv.within in
    let at : x ≡ get_or xs i x = c.index_mut-waiting.ensures.value in
    let zs_is : zs ≡ remove xs i = c.remove-gone.ensures.items ∙ removed-set xs i y in
    let goes : stays c.args.copies (counted_as c.is_copy-found.result c.args.sender x) ≡ false =
    sym c.if-note.ensures.stays in
    let gone : c.remove-gone.result ≡ y =
    c.remove-gone.ensures.value ∙ get_or-set_same xs i y c.remove-gone.result lt in
    let frame : c.into_frame.result ≡ x.frame =
    c.into_frame.ensures ∙ ap (λ (h : HeldFrame g.row.F.Denot). h.frame) gone
    ∙ c.if-note.ensures.frame in
    let left_is : c.push_reserved.new.self.items ≡ left ++ x.frame ∷ [] =
    c.push_reserved.ensures.items ∙ ap (λ f. left ++ f ∷ []) frame in
    let fewer : length zs + 1 ≡ length xs =
    ap (λ (l : List (HeldFrame g.row.F.Denot)). length l + 1) zs_is ∙ length-remove xs i lt in
    let more : length c.push_reserved.new.self.items ≡ length left + 1 =
    ap length left_is ∙ length-append left (x.frame ∷ []) in
    record {
      held_room = c.remove-gone.ensures.capacity ∙ inv.held_room;
      left_room = c.push_reserved.ensures.capacity ∙ inv.left_room;
      few = omega (arith, inv.few, fewer, more);
      within = omega (arith, fewer);
      waiting = subst (All (λ h. stays c.args.copies h ≡ true)) (sym zs_is)
          (All-removed (λ h. stays c.args.copies h ≡ true) xs i inv.waiting);
      lists = λ test tested.
          let before = inv.lists test tested in
          let P = IsTested g.C.Fn c.args.is_copy.now test in
          let rest = drop (i + 1) xs in
          let here = subst (All P) (front xs i x lt at) before.0 in
          let found : c.is_copy-found.result ≡ test x.frame =
          All-head P x rest here c.is_copy-found.result
          (record {
            shown = c.frame.result;
            shows = c.frame.ensures;
            says = record { met = c.is_copy-found.ensures };
          }) in
          let go : stays c.args.copies (counted test c.args.sender x) ≡ false =
          ap (λ (b : Bool). stays c.args.copies (counted_as b c.args.sender x)) (sym found)
          ∙ goes in (
            subst (All P) (sym (ap (drop i) zs_is ∙ removed-after xs i within))
                (All-tail P x rest here),
            rw (zs_is, left_is)
                (AreSorted-goes c.args.copies test c.args.sender c.args.held.now.items xs left i x
                lt at
                go before.1),
          );
    }
