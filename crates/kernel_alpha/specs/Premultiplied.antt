-- What premultiplying makes of a pixel whose colours are not yet premultiplied. Assumes nothing.
use Rattle.pixel.specs.declared.Pixel.{Pixel}
use Rattle.pixel.specs.Alpha.{pixel, premultiplied}

-- the colours premultiplied by the alpha
unfoldable pub premultiplied_pixel : Pixel → Pixel
premultiplied_pixel p = pixel (premultiplied p.r p.a) (premultiplied p.g p.a) (premultiplied p.b p.a) p.a
