-- Which files do imports name, written out?
use Rattle.std.specs.Prelude.{◌≡◌, codes}
use Rattle.wy_link_load.specs.Imports.{import_file}

-- beside a file in no folder, in one, in a folder of a folder, and in the root
pub record AreAsShown : Type 0 where
  pub plain : import_file (codes "app.wy") (codes "base") ≡ codes "base.wy"
  pub folder : import_file (codes "lib/app.wy") (codes "base") ≡ codes "lib/base.wy"
  pub folders : import_file (codes "a/b.c/app") (codes "base") ≡ codes "a/b.c/base.wy"
  pub root : import_file (codes "/app.wy") (codes "base") ≡ codes "/base.wy"
