-- The bucket of a run of name bytes, byte by byte: the hash is kept below a multiple of the buckets, and reduced to a bucket at the end.
-- Assumes nothing.
use mathlib.Core.Path.{◌≡◌, refl, sym, ap, ◌∙◌}
use mathlib.Core.Bool.{true}
use mathlib.Core.List.{map}
use Prim.Native.Nat.{ℕ, ◌+◌, ◌*◌, ◌/◌, ◌%◌, ◌^◌, ◌<◌}
use native.Mathlib.Nat.{mod-mod_of_dvd, dvd_of_mod-eq-zero, add-mul-mod_self_right}
use native.Mathlib.Omega.{arith}
use lib.ListN.{length, get_or, drop}
use Rattle.grammar.specs.Bytes.{Bytes, name_byte}
use Rattle.grammar.specs.Lines.{span}
use Rattle.scan.specs.Hash.{buckets, hash_step, hash_from}
use Rattle.scan.specs.Places.{name_folded}
use Rattle.grammar.proofs.Spans.{run_none}
use Rattle.scan.proofs.Scans.{run_on}

-- what the running hash is reduced by
abbrev pub hashes : ℕ
hashes = 2 ^ 32

-- the buckets divide it: reduced by it, a step on the running hash is one on its bucket
step_wide : (h b : ℕ) → (h * 31 + b) % hashes % buckets ≡ hash_step (h % buckets) b
unfolding hash_step
step_wide h b =
    let split : h * 31 + b ≡ (h % buckets * 31 + b) + h / buckets * 31 * buckets = omega arith in
    mod-mod_of_dvd buckets (h * 31 + b) (dvd_of_mod-eq-zero buckets refl) ∙ ap (λ (x : ℕ). x % buckets) split
    ∙ add-mul-mod_self_right (h % buckets * 31 + b) (h / buckets * 31) buckets

module _ (fold : ℕ → ℕ) (t : Bytes) (i h e : ℕ) (so : hash_from (h % buckets) (name_folded fold t i) ≡ e) where
  -- with one byte more, what is left to do equals what there was to do
  pub hash_on : (r : ℕ) → i < length t → r ≡ fold (get_or t i 0) → name_byte fold (get_or t i 0) ≡ true
      → hash_from ((h * 31 + r) % hashes % buckets) (name_folded fold t (i + 1)) ≡ e
  unfolding hash_from
  hash_on r l q n =
      ap (λ (x : ℕ). hash_from x (name_folded fold t (i + 1))) (step_wide h r ∙ ap (hash_step (h % buckets)) q)
      ∙ sym (ap (λ (s : Bytes). hash_from (h % buckets) (map fold s)) (run_on (name_byte fold) t i l n)) ∙ so

  -- at the end of the run nothing is left
  pub hash_end : span (name_byte fold) (drop i t) ≡ 0 → h % buckets ≡ e
  unfolding hash_from
  hash_end z = sym (ap (λ (s : Bytes). hash_from (h % buckets) (map fold s)) (run_none (name_byte fold) (drop i t) z)) ∙ so
