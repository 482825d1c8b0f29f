-- The scripts of the worked runs, which `rows` hands out, in the order in which they are told.
use Rattle.std.specs.Prelude.{ℕ, List, [], ◌∷◌, codes}

unfoldable pub rows : List (List ℕ)
rows =
    codes ""
    ∷ codes "mkdir /a\n"
    ∷ codes "mkdir /a\nmkdir /a\n"
    ∷ codes "open a /f rwc\nwrite a 6869\nseek a set 0\nread a 9\n"
    ∷ codes "open a /f rwc\nwrite a 6869\n"
    ∷ codes "setup\nopen x /x wc\nopen y /y wc\nthread\nwrite x 61\nthread\nwrite y 62\n"
    ∷ codes "open a /f wc\nwrite a 61\nwrite a 61\nwrite a 61\nwrite a 61\nwrite a 61\n"
    ∷ codes "open a /f rwc\nwrite a 61*8192\npwrite a 4095 6262\n"
    ∷ codes "open a /f wc\nwrite a 6869\n"
    ∷ codes "open a /f wc\nwrite a 6869\nfsync a\npwrite a 0 48\nwrite a 21\n"
    ∷ codes "open a /f rwc\nunlink /f\nwrite a 6869\npread a 0 9\n"
    ∷ codes "setup\nopen f /f wc\nwrite f 61\nopen g /g wc\nwrite g 62\nthread\nwrite f 63\nthread\nrename /g /f\n"
    ∷ codes "open a /f wc\nwrite a 78*131072\nwrite a 78*131072\n"
    ∷ codes "open a /f rwc\nwrite a 61*5000\ntruncate a 10\ntruncate a 5000\n"
    ∷ codes "frob /a\n"
    ∷ codes "mkdir /d\nopen w /d/h wc\nwrite w 68656c6c6f\nclose w\nopen a /d/f wc\ndup a b\nclose a\nrename /d/f /d/g\nstat /d/g\nunlink /d/g\nlist /d\nmkdir /d/e\n"
    ∷ []
