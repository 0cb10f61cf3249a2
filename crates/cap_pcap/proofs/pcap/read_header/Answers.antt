use Rattle.std.proofs.Common.{◌≡◌, ℕ, ◌%◌, ◌++◌, ◌∙◌, inl, inr, arith, sym, ap}
use Rattle.std.proofs.Common.{length, length-append}
use Rattle.std.proofs.KnownBytes.{Consumes-trans}
use Rattle.std.proofs.lemmas.Result.{err_from_is_err_and}
use Rattle.cap_linklayers.specs.LinkLayers.{layer_of}
use Rattle.cap_pcap.specs.Pcap.{HasWrongHeader, HasOtherLink, HasHeader}
use Rattle.cap_pcap.proofs.Parts.{IfSome-of}
use Rattle.cap_pcap.proofs.PcapHeaders.{HasMagic-more, HasVersion-parts, version-behind}
use Rattle.cap_pcap.proofs.PcapHeaders.{HasVersion-longer}
use Rattle.cap_pcap.proofs.PcapHeaders.{link_type-parts, IsHeaderFault-cut}
use Rattle.cap_pcap.proofs.pcap.read_header.Goals as goal

pub returns-in_err-read_exact-2-clause-fault : goal.returns-in_err-read_exact-2-clause-fault
returns-in_err-read_exact-2-clause-fault g c =
    let p = err_from_is_err_and c.from_residual-in_err-read_exact-2.result
    c.from_residual-in_err-read_exact-2.ensures.1 in
    let first = c.read_exact.new.buf in
    rw (p.1, p.2)
    (IsHeaderFault-cut _ _ _ first 2 _ c.in_ok-read_exact.ensures.octets
    (λ v few. inr (
      c.in-Some.magic,
      inl (
        HasMagic-more c.in-Some.magic first v
            (omega arith, sym c.read_u32.ensures ∙ c.in-Some.ensures),
        omega (arith, length-append first v),
      ),
    ))
    c.in_err-read_exact-2.ensures.fault)

pub returns-then-u16_at-ne-MAJOR_VERSION-clause-fault :
    goal.returns-then-u16_at-ne-MAJOR_VERSION-clause-fault
returns-then-u16_at-ne-MAJOR_VERSION-clause-fault g c =
    let m = c.in-Some.magic in
    let first = c.read_exact.new.buf in
    let version = c.read_exact-2.new.buf in
    let four : length first ≡ 4 = omega arith in
    let two : length version ≡ 2 = omega arith in
    let gone = Consumes-trans _ _ _ _ _ c.in_ok-read_exact.ensures.octets
    c.in_ok-read_exact-2.ensures.octets in (
      IfSome-of HasWrongHeader _ _ _ gone
          (λ v. inr (
            m,
            HasMagic-more m (first ++ version) v (HasMagic-more m first version (
              omega arith,
              sym c.read_u32.ensures ∙ c.in-Some.ensures,
            )),
            omega (
              arith,
              four,
              two,
              length-append first version,
              length-append (first ++ version) v,
            ),
            λ is. c.if-u16_at-ne-MAJOR_VERSION.true
                (c.u16_at.ensures ∙ sym (version-behind m first version v four two) ∙ is),
          )),
      (first ++ version, gone),
    )

pub returns-in_err-read_exact-3-clause-fault : goal.returns-in_err-read_exact-3-clause-fault
returns-in_err-read_exact-3-clause-fault g c =
    let p = err_from_is_err_and c.from_residual-in_err-read_exact-3.result
    c.from_residual-in_err-read_exact-3.ensures.1 in
    let m = c.in-Some.magic in
    let first = c.read_exact.new.buf in
    let version = c.read_exact-2.new.buf in
    let four : length first ≡ 4 = omega arith in
    let two : length version ≡ 2 = omega arith in
    let gone = Consumes-trans _ _ _ _ _ c.in_ok-read_exact.ensures.octets
    c.in_ok-read_exact-2.ensures.octets in
    rw (p.1, p.2)
    (IsHeaderFault-cut _ _ _ _ 18 _ gone
    (λ v few. inr (
      m,
      inr (
        HasVersion-parts m first version v four two (sym c.read_u32.ensures ∙ c.in-Some.ensures)
            (sym c.u16_at.ensures ∙ c.if-u16_at-ne-MAJOR_VERSION.false),
        omega (
          arith,
          four,
          two,
          few,
          length-append first version,
          length-append (first ++ version) v,
        ),
      ),
    ))
    c.in_err-read_exact-3.ensures.fault)

pub returns-in-None-clause-fault : goal.returns-in-None-clause-fault
returns-in-None-clause-fault g c =
    let m = c.in-Some.magic in
    let first = c.read_exact.new.buf in
    let version = c.read_exact-2.new.buf in
    let others = c.read_exact-3.new.buf in
    let four : length first ≡ 4 = omega arith in
    let two : length version ≡ 2 = omega arith in
    let more : length others ≡ 18 = omega arith in
    let front = length-append first version in
    let all = length-append (first ++ version) others in
    let gone = Consumes-trans _ _ _ _ _ (Consumes-trans _ _ _ _ _ c.in_ok-read_exact.ensures.octets
    c.in_ok-read_exact-2.ensures.octets) c.in_ok-read_exact-3.ensures.octets in (
      IfSome-of HasOtherLink _ _ _ gone
          (λ v. (
            m,
            HasVersion-longer m first version others v four two
                (sym c.read_u32.ensures ∙ c.in-Some.ensures)
                (sym c.u16_at.ensures ∙ c.if-u16_at-ne-MAJOR_VERSION.false),
            omega (
              arith,
              four,
              two,
              more,
              front,
              all,
              length-append ((first ++ version) ++ others) v,
            ),
            ap layer_of (link_type-parts m first version others v four two more
                ∙ ap (λ (t : ℕ). t % 65536) (sym c.u32_at.ensures))
                ∙ sym c.in-None.ensures,
          )),
      record {
        gone = (first ++ version) ++ others;
        size = omega (arith, four, two, more, front, all);
        consumes = gone;
      },
    )

pub returns-in-Some-link_layer-clause-header : goal.returns-in-Some-link_layer-clause-header
returns-in-Some-link_layer-clause-header g c =
    let m = c.in-Some.magic in
    let first = c.read_exact.new.buf in
    let version = c.read_exact-2.new.buf in
    let others = c.read_exact-3.new.buf in
    let four : length first ≡ 4 = omega arith in
    let two : length version ≡ 2 = omega arith in
    let more : length others ≡ 18 = omega arith in
    let front = length-append first version in
    let all = length-append (first ++ version) others in
    let gone = Consumes-trans _ _ _ _ _ (Consumes-trans _ _ _ _ _ c.in_ok-read_exact.ensures.octets
    c.in_ok-read_exact-2.ensures.octets) c.in_ok-read_exact-3.ensures.octets in
    record {
      is = IfSome-of (HasHeader (record { magic = m; layer = c.in-Some-link_layer.layer })) _ _ _ gone
          (λ v. (
            HasVersion-longer m first version others v four two
                (sym c.read_u32.ensures ∙ c.in-Some.ensures)
                (sym c.u16_at.ensures ∙ c.if-u16_at-ne-MAJOR_VERSION.false),
            omega (
              arith,
              four,
              two,
              more,
              front,
              all,
              length-append ((first ++ version) ++ others) v,
            ),
            ap layer_of (link_type-parts m first version others v four two more
                ∙ ap (λ (t : ℕ). t % 65536) (sym c.u32_at.ensures))
                ∙ sym c.in-Some-link_layer.ensures,
          ));
      passes = record {
        gone = (first ++ version) ++ others;
        size = omega (arith, four, two, more, front, all);
        consumes = gone;
      };
    }
