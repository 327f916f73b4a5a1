-- Inner vocabulary: what is stored of a number. Nobody has to believe it to believe an entry point's promise.
use Rattle.std.specs.Prelude.{List, [], ◌∷◌, ℕ, zero, suc, ◌*◌, ◌/◌, ◌%◌, ◌^◌}

-- the lowest n bytes of a number, the highest first
unfoldable pub spread : ℕ → ℕ → List ℕ
spread zero x = []
spread (suc n) x = x / 2 ^ (n * 8) % 256 ∷ spread n x
