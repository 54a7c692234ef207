mod FromSource
