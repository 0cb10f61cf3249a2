use Rattle.std.proofs.Common.{rules, ◌≡◌, Bool, true, sym, subst, refl}
use Rattle.cap_linklayers.specs.declared.link.LinkLayer.TheVariants as layers
use Rattle.cmd_captures.specs.Conversions.{HasText}
use Rattle.cmd_captures.proofs.Copies.{puts_text, puts_no_text}
use Rattle.cmd_captures.proofs.written.Written.put.Goals as goal

pub returns : goal.returns
returns g c =
    let h = c.args.head.now in
    let w = c.args.octets.now.items in
    let t = c.args.self.now in
    let text = c.in_ok-frame.frame.now in
    let only : t.frames_only ≡ true = search rules in
    let has = subst (λ (b : Bool). HasText b t.layer c.args.signed h w layers.Ethernet text)
    (sym only) (c.in_ok-layer-2.layer, c.in_ok-layer-2.ensures, refl, c.in_ok-frame.ensures.frame)
    in
    puts_text c.args.signed h w t c.write-2.new.self layers.Ethernet text has
    c.in_ok-write-2.ensures

pub returns-in_err-write-2 : goal.returns-in_err-write-2
returns-in_err-write-2 g c =
    let h = c.args.head.now in
    let w = c.args.octets.now.items in
    let t = c.args.self.now in
    let text = c.in_ok-frame.frame.now in
    let only : t.frames_only ≡ true = search rules in
    let has = subst (λ (b : Bool). HasText b t.layer c.args.signed h w layers.Ethernet text)
    (sym only) (c.in_ok-layer-2.layer, c.in_ok-layer-2.ensures, refl, c.in_ok-frame.ensures.frame)
    in
    let puts = puts_no_text c.args.signed h w t c.write-2.new.self c.in_err-write-2.field-0.0
    layers.Ethernet text has c.in_err-write-2.ensures in
    search rules
