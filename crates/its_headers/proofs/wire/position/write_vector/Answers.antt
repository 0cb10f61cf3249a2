use Rattle.std.proofs.Common.{◌≡◌, ◌+◌, ℕ, subst, arith, rules}
use Rattle.byteorder.specs.Endian.{big_bytes}
use Rattle.its_headers.specs.Puts.{Puts}
use Rattle.its_headers.proofs.Puttings.{vector_put}
use Rattle.its_headers.proofs.wire.position.write_vector.Goals as goal

pub returns-clause-puts : goal.returns-clause-puts
returns-clause-puts c =
    let first : c.args.at + 0 ≡ c.args.at = omega arith in
    vector_put _ _ _ _ _ _ _ _ _ _ _ _ _ _ c.args.v
    (subst (λ (n : ℕ).
    Puts c.args.out.now c.write_u64.new.out n
    (big_bytes 8 c.as_u64.result)) first c.write_u64.ensures) c.write_u32.ensures
    c.write_u32-2.ensures c.write_u32-3.ensures c.write_u16.ensures c.write_u16-2.ensures
    (search rules) (search rules) (search rules) (search rules) (search rules) (search rules)
    (omega arith)
