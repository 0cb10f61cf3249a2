use Rattle.std.proofs.Common.{rules, ◌≡◌, ◌-◌, length, take, drop, length-drop, arith}
use Rattle.std.proofs.lemmas.List.{take_all}
use Rattle.its_linkframe.proofs.copies.is_same_but_sender.Goals as goal

pub returns : goal.returns
returns c =
    let held = c.args.held.now in
    let frame = c.args.frame.now in
    let all_held : take (length held - 17) (drop 17 held) ≡ drop 17 held =
    take_all (length held - 17) (drop 17 held) (omega (arith, length-drop 17 held)) in
    let all_frame : take (length frame - 17) (drop 17 frame) ≡ drop 17 frame =
    take_all (length frame - 17) (drop 17 frame) (omega (arith, length-drop 17 frame)) in
    rw (← all_held, ← all_frame) (search rules)
