-- The signs are taken off as the definition does, then the operands are in order, or are exchanged (`NormalLaws`).
use mathlib.Core.Path.{◌≡◌, ◌∙◌}
use native.Mathlib.Omega.{arith}
use lib.ListN.{length}
use denote.Param.{number}
use Rattle.fold_laws.specs.Table.{rep_of}
use Rattle.emit_laws.specs.Gates.{unsigned}
use Rattle.derivation.specs.Known.{literals_of, numbers_of}
use Rattle.emit.specs.contracts.normal.normal.{XOR-type}
use Rattle.emit.proofs.NormalLaws.{unsigned_x, unsigned_y, normal_kept, normal_swapped}
use Rattle.emit.proofs.normal.normal.Goals as goal

pub returns-then-le : goal.returns-then-le
returns-then-le g c t h x y =
    let d = c.args.d in
    let o = XOR-type (number g.row.XOR) in
    let p = c.representative.ensures t h x in
    let q = c.representative-2.ensures t h y in
    let u = c.turn-unsigned in
    let is : literals_of u.result ≡ unsigned (rep_of t) o (literals_of d) = rw (c.sign.ensures, c.sign-2.ensures, p, q) at u.ensures.literals in
    let ns = rw (c.sign.ensures, c.sign-2.ensures, p, q) at u.ensures.numbers in
    let r = c.representative-3.ensures t h (unsigned_x (rep_of t) o (literals_of d) _ is (length t) x) in
    let s = c.representative-4.ensures t h (unsigned_y (rep_of t) o (literals_of d) _ is (length t) y) in
    normal_kept (rep_of t) o (literals_of d) (literals_of u.result) (numbers_of d) (numbers_of u.result) is ns (grind (arith, r, s))

pub returns : goal.returns
returns g c t h x y =
    let d = c.args.d in
    let o = XOR-type (number g.row.XOR) in
    let p = c.representative.ensures t h x in
    let q = c.representative-2.ensures t h y in
    let u = c.turn-unsigned in
    let is : literals_of u.result ≡ unsigned (rep_of t) o (literals_of d) = rw (c.sign.ensures, c.sign-2.ensures, p, q) at u.ensures.literals in
    let ns = rw (c.sign.ensures, c.sign-2.ensures, p, q) at u.ensures.numbers in
    let r = c.representative-3.ensures t h (unsigned_x (rep_of t) o (literals_of d) _ is (length t) x) in
    let s = c.representative-4.ensures t h (unsigned_y (rep_of t) o (literals_of d) _ is (length t) y) in
    let n = normal_swapped (rep_of t) o (literals_of d) (literals_of u.result) (numbers_of d) (numbers_of u.result) is ns (grind (arith, r, s)) in
    (c.swap.ensures.literals ∙ n.0, c.swap.ensures.numbers ∙ n.1)
