-- What accepted sizes mean in numbers.
use Rattle.std.proofs.Common.{◌≡◌, ℕ, ◌+◌, ◌-◌, ◌*◌, ◌≤◌, mul-le-mul_right, arith}
use Rattle.std.proofs.lemmas.Bool.Decides.{nat_tests}
use Rattle.rules.specs.Making.{size_refusal}

pub record Sizes (blocks pages host : ℕ) : Type 0 where
  pub two : 2 ≤ blocks
  pub blocks_most : blocks ≤ 255
  pub one : 1 ≤ pages
  pub pages_most : pages ≤ 64
  pub all : blocks * pages ≤ 4095
  pub host_one : 1 ≤ host
  pub host_most : host + 1 ≤ (blocks - 1) * pages

pub sizes_fit : (blocks pages host : ℕ) → size_refusal blocks pages host ≡ 0 → Sizes blocks pages host
sizes_fit blocks pages host e = record {
  two = grind (arith, nat_tests, e);
  blocks_most = grind (arith, nat_tests, e);
  one = grind (arith, nat_tests, e);
  pages_most = grind (arith, nat_tests, e);
  all = grind (arith, nat_tests, e);
  host_one = grind (arith, nat_tests, e);
  host_most = grind (arith, nat_tests, e);
}

-- There are fewer host pages than flash pages.
pub host_few : (blocks pages host : ℕ) → Sizes blocks pages host → host + 1 ≤ 4095
host_few blocks pages host s =
    let m : (blocks - 1) * pages ≤ blocks * pages = mul-le-mul_right pages (omega arith) in omega (arith, s.host_most, s.all, m)
