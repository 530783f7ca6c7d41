-- Worked examples of component transfer. Assumes nothing.
use Rattle.std.specs.Prelude.{ℕ, ◌≡◌, refl, List, [], ◌∷◌, get_or, pos, negsuc}
use Rattle.pixel.specs.Curve.{table_channel, discrete_channel, linear_channel}

abbrev pub entries : List ℕ → ℕ → ℕ
entries v i = get_or v i 0

pub record Checked : Type 0 where
  -- table 0 1 at 0, 128 and 255; table 0 1 0 at 127 and 128, 254 each; a table of one entry, a half
  pub table : (table_channel 1 (entries (0 ∷ 65536 ∷ [])) 0 ≡ 0) × (table_channel 1 (entries (0 ∷ 65536 ∷ [])) 128 ≡ 128)
      × (table_channel 1 (entries (0 ∷ 65536 ∷ [])) 255 ≡ 255)
  pub tent : (table_channel 2 (entries (0 ∷ 65536 ∷ 0 ∷ [])) 127 ≡ 254) × (table_channel 2 (entries (0 ∷ 65536 ∷ 0 ∷ [])) 128 ≡ 254)
  pub constant : table_channel 0 (entries (32768 ∷ [])) 77 ≡ 128
  -- discrete 0 1 at 127 and 128, and its last entry at 255; discrete of three at 84, 85 and 170: a third of 255 is 85
  pub discrete : (discrete_channel 2 (entries (0 ∷ 65536 ∷ [])) 127 ≡ 0) × (discrete_channel 2 (entries (0 ∷ 65536 ∷ [])) 128 ≡ 255)
      × (discrete_channel 2 (entries (0 ∷ 65536 ∷ [])) 255 ≡ 255)
  pub thirds : (discrete_channel 3 (entries (0 ∷ 32768 ∷ 65536 ∷ [])) 84 ≡ 0) × (discrete_channel 3 (entries (0 ∷ 32768 ∷ 65536 ∷ [])) 85 ≡ 128)
      × (discrete_channel 3 (entries (0 ∷ 32768 ∷ 65536 ∷ [])) 170 ≡ 255)
  -- slope −1, intercept 1; slope −0.5 at 1 is −0.5, which goes up to 0; slope 0.5 at 1 is 0.5, which goes up to 1; slope 256 is limited
  pub linear : (linear_channel (negsuc 65535) (pos 65536) 55 ≡ 200) × (linear_channel (negsuc 32767) (pos 0) 1 ≡ 0)
      × (linear_channel (pos 32768) (pos 0) 1 ≡ 1) × (linear_channel (pos 16777216) (pos 0) 1 ≡ 255)

pub checked : Checked
unfolding table_channel discrete_channel linear_channel
checked = record {
  table = (refl, refl, refl);
  tent = (refl, refl);
  constant = refl;
  discrete = (refl, refl, refl);
  thirds = (refl, refl, refl);
  linear = (refl, refl, refl, refl);
}
